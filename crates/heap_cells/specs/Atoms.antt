-- The atoms of a heap among the first of a pool.
use Rattle.std.specs.Prelude.{◌≡◌, ℕ, ◌<◌, length, All}
use Rattle.heap_cells.specs.declared.Cell.{Cell}
use Rattle.heap_cells.specs.declared.Cell.TheVariants as cell
use Rattle.heap_cells.specs.Cells.{Cells, bound, slot_at, compound_at}

-- a cell that is an atom is one of the first n
abbrev pub IsAtomBelow : ℕ → Cell → Type 0
IsAtomBelow n (cell.Ref i) = Unit {0}
IsAtomBelow n (cell.Int z) = Unit {0}
IsAtomBelow n (cell.Atom a) = a.number < n
IsAtomBelow n (cell.Struct j) = Unit {0}

-- the atoms of a heap are among the first n
pub record HasAtomsBelow (n : ℕ) (h : Cells) : Type 0 where
  pub slots : (i : ℕ) (c : Cell) → slot_at h i ≡ bound c → IsAtomBelow n c
  pub names : (j : ℕ) → j < length h.compounds → (compound_at h j).name.number < n
  pub args : (j : ℕ) → All (IsAtomBelow n) (compound_at h j).args
