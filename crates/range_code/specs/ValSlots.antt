-- Which slots a range reads by val.
use Rattle.std.specs.Prelude.{ℕ, Bool, List, length, filter}
use Rattle.std.specs.List.{list_any}
use Rattle.fd_language.specs.declared.range_node.Feature.{Feature}
use Rattle.fd_language.specs.declared.range_node.Feature.TheVariants as feature
use Rattle.fd_language.specs.Family.{count_up}
use Rattle.fd_language.specs.Range.{Range}
use Rattle.fd_language.specs.Features.{is_same_pair}
use Rattle.range_code.specs.Slots.{slots_of, slot_features}

-- whether the pair is in the list
abbrev pub has_pair : List (ℕ × Feature) → ℕ × Feature → Bool
has_pair ds d = list_any (is_same_pair d) ds

-- the slots that the range reads by val, rising
abbrev pub val_slots : Range → List ℕ
val_slots r = filter (λ s. has_pair (slot_features r) (s, feature.Val)) (count_up 0 (length (slots_of r)))
