use Rattle.std.proofs.Common.{◌≡◌, ◌++◌, take, map}
use Rattle.code_listing.specs.Texts.{slot_letter}
use Rattle.code_listing.specs.States.{slot_of}
use Rattle.code_listing.proofs.write.put_slots.Given as goal

abbrev pub invariant-loop-index : goal.invariant-loop-index
invariant-loop-index l = l.text.items ≡ l.initial.text.items ++ map (λ s. slot_letter (slot_of s)) (take l.index l.slots)
