-- How a variable is looked for in a compound term.
use Rattle.std.specs.Prelude.{◌≡◌, ◌≢◌, ℕ, ◌≤◌, true, false, List, [], ◌∷◌, ◌++◌, All, map, Option, Some, None}
use Rattle.term_pool.specs.Terms.{sizes}
use Rattle.heap_cells.specs.declared.Cell.{Cell}
use Rattle.heap_cells.specs.declared.Cell.TheVariants as cell
use Rattle.heap_cells.specs.Cells.{Cells, IsOf}
use Rattle.heap_cells.specs.Terms.{Naming, Same, term_of, terms_by, occurs_any}
use Rattle.heap_cells.specs.SeenCells.{IsRoot, IsBoundToVariable, one_step}
use Rattle.unify_core.specs.TerminationMeasure.{unnamed}

-- those ahead, and the last one, where there is one
abbrev pub with_last : List ℕ → Option ℕ → List ℕ
with_last js None = js
with_last js (Some j) = js ++ j ∷ []

-- the compound terms with these numbers
abbrev pub compounds : List ℕ → List Cell
compounds js = map cell.Struct js

-- the variable occurs in one of the cells' terms
abbrev pub OccursAmong : Cells → ℕ → List Cell → Type 0
OccursAmong h var cells = (name : Naming) → occurs_any var (terms_by (term_of name h) cells) ≡ true

-- it occurs in none
abbrev pub IsAbsentAmong : Cells → ℕ → List Cell → Type 0
IsAbsentAmong h var cells = (name : Naming)
    → occurs_any var (terms_by (term_of name h) cells) ≡ false

-- the cell is a constant, or a variable other than this one
abbrev pub IsOther : ℕ → Cell → Type 0
IsOther var (cell.Ref i) = i ≢ var
IsOther var (cell.Int z) = Unit {0}
IsOther var (cell.Atom a) = Unit {0}
IsOther var (cell.Struct j) = ⊥

-- the cell comes to a constant, or to a variable other than this one
abbrev pub ComesToOther : Cells → ℕ → Cell → Type 0
ComesToOther h var c = (root : Cell) × IsRoot h root × Same h c root × IsOther var root

-- More compound terms are ahead: the variable occurs in one of them exactly where it occurs in one of the cells.
pub record LeavesAhead (h : Cells) (var : ℕ) (cells : List Cell) (old new : List ℕ) : Type 0 where
  pub more : List ℕ
  pub ahead : new ≡ old ++ more
  pub own : All (IsOf h) (compounds more)
  pub same : (name : Naming) → occurs_any var (terms_by (term_of name h) (compounds more))
      ≡ occurs_any var (terms_by (term_of name h) cells)
  pub smaller : sizes (terms_by (term_of unnamed h) (compounds more)) ≤ sizes
      (terms_by (term_of unnamed h) cells)

-- one look at the cell shows a constant, or a variable other than this one
abbrev pub ShowsOther : Cells → ℕ → Cell → Type 0
ShowsOther h var c = (IsBoundToVariable h c → ⊥) × IsOther var (one_step h c)
