-- Compound terms that are added to a branch.
use Rattle.std.specs.Prelude.{◌≡◌, ℕ, Bool, true, false, List}
use Rattle.fd_language.specs.Term.{Name, Comp}
use Rattle.term_pool.specs.declared.AtomId.{AtomId}
use Rattle.heap_cells.specs.declared.Cell.{Cell}
use Rattle.heap_cells.specs.declared.Cell.TheVariants as cell
use Rattle.heap_cells.specs.Cells.{Cells}
use Rattle.heap_cells.specs.Terms.{Naming, term_of, terms_by}
use Rattle.branch_lemmas.specs.Frames.{IsGrown}
use Rattle.unify_core.specs.declared.Touch.{Touch}
use Rattle.unify_core.specs.Unifications.{CannotUnify, IsEqualled}
use Rattle.branch_state.specs.States.{State, IsCell, IsSound, with_heap}

-- The cell stands for the compound term of the cells, under whatever names.
pub record IsMade (f : AtomId) (args : List Cell) (old now : State) (c : Cell) : Type 0 where
  pub own : IsCell now c
  pub term : (name : Naming) → term_of name now.heaps.now c
      ≡ Comp (name f) (terms_by (term_of name old.heaps.now) args)
  pub grown : IsGrown old.heaps.now now.heaps.now

-- The cell stands for a compound term of these cells.
abbrev pub IsCompoundOf : Cells → List Cell → Cell → Type 0
IsCompoundOf h args c = (name : Naming) → (f : Name) × (term_of name h c
    ≡ Comp f (terms_by (term_of name h) args))

-- two cells are equal now, or can't be
abbrev pub EqualsOrNot : Cells → Cell → Cell → Cells → List Touch → List Touch → Bool → Type 0
EqualsOrNot h a b now before after true = IsEqualled h a b now before after
EqualsOrNot h a b now before after false = CannotUnify h a b

-- The compound term of the cells is made, and the variable is equal to it now, or can't be.
pub record BindsCompound (f : AtomId) (args : List Cell) (var : ℕ) (old now : State)
    (before after : List Touch) (equal : Bool) : Type 0 where
  pub middle : State
  pub built : Cell
  pub made : IsMade f args old middle built
  pub heap : middle ≡ with_heap old middle.heaps.now
  pub sound : IsSound middle
  pub equals : EqualsOrNot middle.heaps.now (cell.Ref var) built now.heaps.now before after equal
