use Rattle.std.proofs.Common.{◌≡◌, take}
use Rattle.range_code.proofs.compile.by_slot.Given as goal

abbrev pub invariant-loop-slot : goal.invariant-loop-slot
invariant-loop-slot l = l.slots.items ≡ take l.slot-index l.pairs
