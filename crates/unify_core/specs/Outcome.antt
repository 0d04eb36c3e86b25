-- What a call did, by what it answers.
use Rattle.std.specs.Prelude.{◌≡◌, ℕ, ℤ, ◌⊎◌, Bool, true, false, Result, Ok, Err, ◌++◌, ◌<◌, List, [], ◌∷◌, All}
use Rattle.heap_cells.specs.declared.Cell.{Cell}
use Rattle.heap_cells.specs.Cells.{Cells, linked, bound, slot_at, with_slot}
use Rattle.heap_cells.specs.Terms.{Naming, IsOneToOne, term_of, occurs, occurs_any}
use Rattle.heap_cells.specs.Atoms.{HasAtomsBelow}
use Rattle.unify_core.specs.declared.Pair.{Pair}
use Rattle.unify_core.specs.declared.Touch.{Touch}
use Rattle.unify_core.specs.declared.Unified.{Unified}
use Rattle.unify_core.specs.declared.Unified.TheVariants.{No, Yes}
use Rattle.unify_core.specs.PairReduction.{Reduces, equations, IsOwn, HasAtoms, IsSameSize}
use Rattle.unify_core.specs.Touches.{IsRefuted, IsSymbolic}
use Rattle.unify_core.specs.declared.Touch.TheVariants.{Value, Same}
use Rattle.heap_cells.specs.declared.Cell.TheVariants as cell
use Rattle.fd_language.specs.Term.{Name, Terms, Comp}
use Rattle.unify_core.specs.TerminationMeasure.{effort}

abbrev pub IfTrue : {E : Type 0} → Result Bool E → Type 0 → Type 0
IfTrue (Ok true) p = p
IfTrue (Ok false) p = Unit {0}
IfTrue (Err e) p = Unit {0}

abbrev pub IfFalse : {E : Type 0} → Result Bool E → Type 0 → Type 0
IfFalse (Ok true) p = Unit {0}
IfFalse (Ok false) p = p
IfFalse (Err e) p = Unit {0}

abbrev pub IfYes : {E : Type 0} → Result Unified E → (List Touch → Type 0) → Type 0
IfYes (Ok (Yes v)) p = p v.items
IfYes (Ok No) p = Unit {0}
IfYes (Err e) p = Unit {0}

abbrev pub IfNo : {E : Type 0} → Result Unified E → Type 0 → Type 0
IfNo (Ok (Yes v)) p = Unit {0}
IfNo (Ok No) p = p
IfNo (Err e) p = Unit {0}

-- some of the work is done
pub record IsDone (old : Cells) (work : List Pair) (before : List Touch) (now : Cells)
    (left : List Pair) (ts : List Touch) : Type 0 where
  pub more : List Touch
  pub touches : ts ≡ before ++ more
  pub reduces : (name : Naming) → Reduces name old work now left more
  pub size : IsSameSize old now
  pub own : All (IsOwn old) work → All (IsOwn now) left
  pub atoms : (n : ℕ) → HasAtomsBelow n old → All (HasAtoms n) work → HasAtomsBelow n now
      × All (HasAtoms n) left
  pub falls : effort now left < effort old work

-- the work can't be done
abbrev pub IsHopeless : Cells → List Pair → Type 0
IsHopeless h work = (name : Naming) → IsOneToOne name → IsRefuted h (equations name h work)

-- the pairs of two lists of cells
abbrev pub paired : List Cell → List Cell → List Pair
paired [] ds = []
paired (c ∷ cs) [] = []
paired (c ∷ cs) (d ∷ ds) = record { left = c; right = d } ∷ paired cs ds

-- one heap is the other with a variable bound to a cell that it doesn't occur in
pub record IsBinding (old : Cells) (var : ℕ) (to : Cell) (now : Cells) : Type 0 where
  pub bound : now ≡ with_slot old var (bound to)
  pub absent : (name : Naming) → occurs var (term_of name old to) ≡ false

-- whether the variable occurs in the cell's term
abbrev pub TellsOccurs : Cells → ℕ → Cell → Bool → Type 0
TellsOccurs h var c b = (name : Naming) → b ≡ occurs var (term_of name h c)

-- a compound term that the variable occurs in
abbrev pub IsInfinite : Cells → ℕ → Cell → Type 0
IsInfinite h var c = (name : Naming) → (f : Name) × (ts : Terms) × (term_of name h c ≡ Comp f ts)
    × (occurs_any var ts ≡ true)

abbrev pub IsSymbolicCell : Cells → Cell → Type 0
IsSymbolicCell h c = (name : Naming) → IsSymbolic (term_of name h c)

-- what the store is told where its variable k is bound to the cell
abbrev pub TellsTouch : Cells → ℕ → ℕ → Cell → List Touch → List Touch → Type 0
TellsTouch h var k to before after = ((z : ℤ) × (to ≡ cell.Int z)
    × (after ≡ before ++ Value k z ∷ []))
    ⊎ ((d : ℕ) × (m : ℕ) × (to ≡ cell.Ref d) × (slot_at h d ≡ linked m)
    × (after ≡ before ++ Same k m ∷ []))
