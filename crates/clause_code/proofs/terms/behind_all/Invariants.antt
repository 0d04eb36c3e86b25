use Rattle.std.proofs.Common.{◌≡◌, ◌+◌}
use Rattle.clause_code.specs.Steps.{compounds}
use Rattle.clause_code.proofs.Rests.{rest}
use Rattle.clause_code.proofs.terms.behind_all.Given as goal

abbrev pub invariant-loop-id : goal.invariant-loop-id
invariant-loop-id l = l.next + compounds (rest l.pool l.ids l.id-index) ≡ l.first + compounds (rest l.pool l.ids 0)
