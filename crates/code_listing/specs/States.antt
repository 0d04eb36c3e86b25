-- States of places as they are kept.
use Rattle.std.specs.Prelude.{List, map, option_map}
use Rattle.wam_code.specs.Area as area
use Rattle.code_listing.specs.declared.states.Slot.{Slot}
use Rattle.code_listing.specs.declared.states.Slot.TheVariants.{Unset, Cell, Level}
use Rattle.code_listing.specs.declared.states.PlaceState.{PlaceState}

abbrev pub slot_of : Slot → area.Slot
slot_of Unset = area.Unset
slot_of Cell = area.Cell
slot_of Level = area.Level

abbrev pub state_of : PlaceState → area.State
state_of s = record { regs = s.regs.items; frame = option_map (λ slots. map slot_of slots.items) s.frame; owed = s.owed }

abbrev pub states_of : List PlaceState → List area.State
states_of ss = map state_of ss
