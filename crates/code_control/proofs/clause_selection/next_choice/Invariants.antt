use Rattle.std.proofs.Common.{Some}
use Rattle.wam_code.specs.CodeRegions.{distance}
use Rattle.code_control.specs.ClauseSelection.{IsLater, LeavesOut}
use Rattle.code_control.proofs.clause_selection.next_choice.Given as goal

abbrev pub invariant-looking : goal.invariant-looking
invariant-looking g l = LeavesOut l.code l.branch l.from l.areas (Some l.at) × IsLater l.code l.branch l.from l.at l.areas

abbrev pub decreases-looking : goal.decreases-looking
decreases-looking g l = distance l.code l.at
