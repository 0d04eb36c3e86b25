-- The row of a switch's table that decides.
use Rattle.std.specs.Prelude.{◌≡◌, ◌⊎◌, ◌<◌, ◌≤◌, ℕ, [], ◌∷◌, length, Some, slice_get}
use Rattle.heap_cells.specs.declared.Seen.{Seen}
use Rattle.heap_cells.specs.declared.Seen.TheVariants as seen
use Rattle.wam_code.specs.declared.instruction.Key.{Key}
use Rattle.wam_code.specs.declared.instruction.Key.TheVariants as key
use Rattle.wam_code.specs.Area.{Table}
use Rattle.wam_code.specs.Keys.{IsBelow}
use Rattle.code_safety.specs.declared.instruction_outcomes.Went.{Went}
use Rattle.code_safety.specs.declared.instruction_outcomes.Went.TheVariants.{On, Back}

-- the key is what is seen at the top of a term
abbrev pub IsKeyOf : Seen → Key → Type 0
IsKeyOf (seen.Atom a) (key.Atom b) = b ≡ a
IsKeyOf (seen.Int y) (key.Int z) = z ≡ y
IsKeyOf (seen.Struct f args) (key.Struct g n) = (g ≡ f) × (n ≡ length args.now)
IsKeyOf _ _ = ⊥

-- it is below the key of what is seen
abbrev pub IsKeyBelow : Seen → Key → Type 0
IsKeyBelow (seen.Atom a) k = IsBelow k (key.Atom a)
IsKeyBelow (seen.Int z) k = IsBelow k (key.Int z)
IsKeyBelow (seen.Struct f args) k = IsBelow k (key.Struct f (length args.now))
IsKeyBelow _ k = ⊥

-- the rows with the key lie from one number on before another
abbrev pub LiesBetween : Seen → Table → ℕ → ℕ → Type 0
LiesBetween x rows low high = (i : ℕ) (row : Key × ℕ) → slice_get rows i ≡ Some row → IsKeyOf x row.0 → (low ≤ i) × (i < high)

-- the first row with the key has this place
abbrev pub IsFirstRow : Seen → Table → ℕ → Type 0
IsFirstRow x [] to = ⊥
IsFirstRow x (row ∷ rows) to = (IsKeyOf x row.0 × (row.1 ≡ to)) ⊎ ((IsKeyOf x row.0 → ⊥) × IsFirstRow x rows to)

-- no row has the key
abbrev pub HasNoKey : Seen → Table → Type 0
HasNoKey x [] = Unit {0}
HasNoKey x (row ∷ rows) = (IsKeyOf x row.0 → ⊥) × HasNoKey x rows

abbrev pub Finds : Seen → Table → Went → Type 0
Finds x rows (On to) = IsFirstRow x rows to
Finds x rows Back = HasNoKey x rows

-- where a switch goes on that tells kinds of terms apart
abbrev pub place_for : Seen → ℕ → ℕ → ℕ → ℕ → ℕ
place_for (seen.Open x) v c i s = v
place_for (seen.Constrained x k) v c i s = v
place_for (seen.Atom a) v c i s = c
place_for (seen.Int z) v c i s = i
place_for (seen.Struct f args) v c i s = s
