use Rattle.std.proofs.Common.{ℕ, ◌<◌, get_or}
use Rattle.code_listing.specs.declared.states.PlaceState.{PlaceState}
use Rattle.code_listing.specs.States.{state_of}
use Rattle.listing_reader.specs.NumberBounds.{IsSmallState}
use Rattle.held_code.proofs.states.hold_states.Given as goal

abbrev pub invariant-loop-index : goal.invariant-loop-index
invariant-loop-index l = (k : ℕ) (d : PlaceState) → k < l.index → IsSmallState (state_of (get_or l.states k d))
