-- The slots of a range: one for each of its variables, in the order of first occurrence.
use Rattle.std.specs.Prelude.{◌≡◌, ℕ, if◌then◌else◌, nat_eq, List, map, Option, Some, None}
use Rattle.std.specs.List.{position_or_len}
use Rattle.fd_language.specs.declared.range_node.Need.{Need}
use Rattle.fd_language.specs.declared.range_node.Feature.{Feature}
use Rattle.fd_language.specs.Family.{has}
use Rattle.fd_language.specs.Range.{Range}
use Rattle.fd_language.specs.Occurrences.{range_occurrences}
use Rattle.fd_language.specs.Needs.{once, need_of}
use Rattle.fd_language.specs.Range.{params}
use Rattle.fd_language.specs.RangeRenaming.{rename_range}
use Rattle.fd_language.specs.Features.{features_of}

-- the variable of each slot
abbrev pub slots_of : Range → List ℕ
slots_of r = once (map (λ p. p.variable) (range_occurrences r))

-- the slot of a variable
abbrev pub slot_of : Range → ℕ → ℕ
slot_of r y = position_or_len (nat_eq y) (slots_of r)

-- the need of a parameter, and none of another variable
abbrev pub need_at : Range → ℕ → Option Need
need_at r y = if has (params r) y then Some (need_of r y) else None

abbrev pub slot_needs : Range → List (Option Need)
slot_needs r = map (need_at r) (slots_of r)

-- the range with the slots as its variables
abbrev pub in_slots : Range → Range
in_slots r = rename_range (slot_of r) r

abbrev pub slot_features : Range → List (ℕ × Feature)
slot_features r = features_of (in_slots r)

-- Two ranges that differ only in the names of their variables: they are the same in slots, and ask the same of them.
pub record IsAlike (r q : Range) : Type 0 where
  pub same : in_slots r ≡ in_slots q
  pub needs : slot_needs r ≡ slot_needs q
