use Rattle.std.proofs.Common.{◌≡◌, take, map}
use Rattle.code_listing.specs.States.{slot_of}
use Rattle.code_flow.proofs.state_transfer.are_same_slots.Given as goal

abbrev pub invariant-loop-index : goal.invariant-loop-index
invariant-loop-index l = map slot_of (take l.index l.one) ≡ map slot_of (take l.index l.two)
