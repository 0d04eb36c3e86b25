use Rattle.std.proofs.Common.{◌≡◌, map, take}
use Rattle.code_listing.specs.Texts.{slot_letter}
use Rattle.code_listing.specs.States.{slot_of}
use Rattle.listing_reader.proofs.read_states.read_slots.Given as goal

abbrev pub invariant-loop-letter : goal.invariant-loop-letter
invariant-loop-letter l = map slot_letter (map slot_of l.slots.items) ≡ take l.letter-index l.word
