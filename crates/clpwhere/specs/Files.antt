-- Files whose texts are put together in their order.
use Rattle.std.specs.Prelude.{ℕ, ◌+◌, ◌-◌, List, [], ◌∷◌, length, nat_lt, Option, Some, None, if◌then◌else◌}
use Rattle.std.specs.List.{flat_map}
use Rattle.clpwhere.specs.Parts.{TextParts}

-- the text that they make
abbrev pub joined : List TextParts → List ℕ
joined files = flat_map (λ f. f.bytes) files

-- where each of them begins in it, where the first begins at the place at
abbrev pub begins_from : ℕ → List TextParts → List ℕ
begins_from at [] = []
begins_from at (f ∷ fs) = at ∷ begins_from (at + length f.bytes) fs

abbrev pub begins : List TextParts → List ℕ
begins files = begins_from 0 files

-- a file, and a place in it
pub record FilePlace : Type 0 where
  pub file : TextParts
  pub place : ℕ

abbrev pub place_in_file : TextParts → ℕ → FilePlace
place_in_file f place = record { file = f; place = place }

-- a place of the text that they make: it lies in the first file that ends behind it, and else in the last
abbrev pub file_place : List TextParts → ℕ → Option FilePlace
file_place [] place = None
file_place (f ∷ []) place = Some (place_in_file f place)
file_place (f ∷ (g ∷ gs)) place =
    if nat_lt place (length f.bytes) then Some (place_in_file f place) else file_place (g ∷ gs) (place - length f.bytes)
