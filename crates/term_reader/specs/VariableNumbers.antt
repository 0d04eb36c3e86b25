-- The numbers of a sentence's variables, by the ids of their names.
use Rattle.std.specs.Prelude.{◌≡◌, ◌≢◌, ℕ, ◌==◌, List, [], ◌∷◌, ◌++◌, length, slice_get, Some, if◌then◌else◌}
use Rattle.std.specs.List.{position_or_len, list_any}
use Rattle.term_pool.specs.declared.AtomId.{AtomId}

-- The vector has the number of each name that isn't that of anonymous variables.
abbrev pub IsIndexed : AtomId → List AtomId → List ℕ → Type 0
IsIndexed anonymous names numbers = (j : ℕ) (a : AtomId) → slice_get names j ≡ Some a → a ≢ anonymous → slice_get numbers a.number ≡ Some j

-- the number of a variable whose name has this id
abbrev pub id_number : AtomId → List AtomId → AtomId → ℕ
id_number anonymous names a = if a.number == anonymous.number then length names else position_or_len (λ b. a.number == b.number) names

-- the names once it is read
abbrev pub with_id : AtomId → List AtomId → AtomId → List AtomId
with_id anonymous names a = if a.number == anonymous.number then names ++ a ∷ [] else if list_any (λ b. a.number == b.number) names then names else names ++ a ∷ []
