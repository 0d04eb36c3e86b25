-- Frames as they stand in a line.
use Rattle.std.specs.Prelude.{ℕ, List, map, Option}
use Rattle.wam_code.specs.Area.{Slot}
use Rattle.code_listing.specs.Texts.{slot_letter}

-- slots' letters
abbrev pub letters : List Slot → List ℕ
letters slots = map slot_letter slots

-- no number stands in these
abbrev pub IsSlot : Slot → Type 0
IsSlot s = Unit {0}

abbrev pub IsSlots : List Slot → Type 0
IsSlots slots = Unit {0}

abbrev pub AnyFrame : Option (List Slot) → Type 0
AnyFrame f = Unit {0}
