use Rattle.std.proofs.Common.{◌≡◌, map, replicate}
use Rattle.wam_code.specs.Area as area
use Rattle.code_listing.specs.States.{slot_of}
use Rattle.code_flow.proofs.state_transfer.unset_slots.Given as goal

abbrev pub invariant-loop-done : goal.invariant-loop-done
invariant-loop-done l = map slot_of l.slots.items ≡ replicate l.done area.Unset
