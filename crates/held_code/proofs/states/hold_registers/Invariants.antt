use Rattle.std.proofs.Common.{ℕ, ◌<◌, get_or}
use Rattle.listing_reader.specs.NumberBounds.{IsNumber}
use Rattle.held_code.proofs.states.hold_registers.Given as goal

abbrev pub invariant-loop-number : goal.invariant-loop-number
invariant-loop-number l = (k : ℕ) (d : ℕ) → k < l.number-index → IsNumber (get_or l.numbers k d)
