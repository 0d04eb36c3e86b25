-- Tables in which a key can be looked for by halves.
use Rattle.std.specs.Prelude.{◌≡◌, ◌⊎◌, ℕ, suc, ◌<◌, ◌<ℤ◌, length, Some, slice_get}
use Rattle.wam_code.specs.declared.instruction.Key.{Key}
use Rattle.wam_code.specs.declared.instruction.Key.TheVariants.{Atom, Int, Struct}
use Rattle.wam_code.specs.Area.{Table, Area, table_at}

-- Atoms stand by their numbers, integers by value, and structures by their names' numbers and
-- then by how many arguments they have. Keys of two kinds have no order.
abbrev pub IsBelow : Key → Key → Type 0
IsBelow (Atom c) (Atom d) = c.number < d.number
IsBelow (Int y) (Int z) = y <ℤ z
IsBelow (Struct f n) (Struct g m) = (f.number < g.number) ⊎ ((f.number ≡ g.number) × (n < m))
IsBelow _ _ = ⊥

abbrev pub IsRow : Table → ℕ → Key × ℕ → Type 0
IsRow table k row = slice_get table k ≡ Some row

-- each key is below the next
abbrev pub Rises : Table → Type 0
Rises table = (k : ℕ) (x y : Key × ℕ) → IsRow table k x → IsRow table (suc k) y → IsBelow x.0 y.0

abbrev pub HasRisingTables : Area → Type 0
HasRisingTables a = (t : ℕ) → t < length a.tables → Rises (table_at a t)
