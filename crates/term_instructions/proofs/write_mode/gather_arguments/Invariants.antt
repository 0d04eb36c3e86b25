use Rattle.std.proofs.Common.{◌-◌, length}
use Rattle.term_instructions.specs.WriteMode.{IsGatheredTo}
use Rattle.term_instructions.proofs.write_mode.gather_arguments.Given as goal

abbrev pub invariant-arguments : goal.invariant-arguments
invariant-arguments g l = IsGatheredTo l.code l.n l.initial.branch l.initial.at l.initial.areas l.initial.cells.items l.branch l.at l.areas l.cells.items

abbrev pub decreases-arguments : goal.decreases-arguments
decreases-arguments g l = length l.code.code - l.at
