use Rattle.std.proofs.Common.{◌≡◌, ℕ, take, nat_eq}
use Rattle.std.specs.List.{list_any}
use Rattle.range_code.specs.ValSlots.{has_pair}
use Rattle.range_code.proofs.compile.slots_with.Given as goal

abbrev pub invariant-loop-slot : goal.invariant-loop-slot
invariant-loop-slot l = (z : ℕ) → list_any (nat_eq z) l.met.keys ≡ has_pair (take l.slot-index l.features) (z, l.wanted)
