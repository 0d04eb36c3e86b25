use Rattle.std.proofs.Common.{◌-◌, [], length}
use Rattle.term_instructions.specs.ReadMode.{IsReadTo}
use Rattle.term_instructions.proofs.read_mode.look_at_arguments.Given as goal

abbrev pub invariant-arguments : goal.invariant-arguments
invariant-arguments g l = IsReadTo l.code l.cells l.branch [] l.initial.now l.initial.areas l.branch [] l.now l.areas

abbrev pub decreases-arguments : goal.decreases-arguments
decreases-arguments g l = length l.code.code - l.now.at
