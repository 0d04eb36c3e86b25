use Rattle.std.proofs.Common.{◌≡◌, ◌++◌, ◌-◌, ◌+◌, List, ℕ, length}
use Rattle.term_reader.proofs.variables.reach.Given as goal

abbrev pub invariant-loop-numbers : goal.invariant-loop-numbers
invariant-loop-numbers l = (more : List ℕ) × (l.numbers.items ≡ l.initial.numbers.items ++ more)

abbrev pub decreases-loop-numbers : goal.decreases-loop-numbers
decreases-loop-numbers l = l.index + 1 - length l.numbers.items
