use Rattle.std.proofs.Common.{length}
use Rattle.term_reader.specs.View.{Steps}
use Rattle.term_reader.proofs.parser.reduce.Given as goal

abbrev pub invariant-loop-next : goal.invariant-loop-next
invariant-loop-next l = Steps l.below l.initial.pool l.pool l.initial.items.items l.items.items l.priority l.of_term l.initial.term l.term

abbrev pub decreases-loop-next : goal.decreases-loop-next
decreases-loop-next l = length l.items.items
