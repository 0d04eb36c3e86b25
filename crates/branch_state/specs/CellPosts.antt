-- What a goal `T in r` does to a branch, by the cells of its target and of the range's slots.
use Rattle.std.specs.Prelude.{◌≡◌, ℕ, List, [], ◌∷◌, ◌++◌, Some, None}
use Rattle.fd_language.specs.Range.{Range, Indexical}
use Rattle.fd_language.specs.Term.{Term, Substitution}
use Rattle.heap_cells.specs.declared.Cell.{Cell}
use Rattle.heap_cells.specs.Cells.{Cells}
use Rattle.heap_cells.specs.Terms.{Naming}
use Rattle.branch_meaning.specs.Store.{Touch, posts}
use Rattle.branch_lemmas.specs.CellRanges.{cells_offence, cells_range, Names, IsTermsLinked}
use Rattle.heap_cells.specs.SeenTerms.{seen_term}
use Rattle.range_code.specs.Frames.{family_of}
use Rattle.branch_state.specs.CellVariables.{shown_slots}
use Rattle.branch_state.specs.VariableBounds.{PostsBounds}
use Rattle.branch_state.specs.States.{State, HasNoModel, IsSound, IsSoundBelow}
use Rattle.branch_state.specs.declared.step.Step.{Step}
use Rattle.branch_state.specs.declared.step.Step.TheVariants.{Kept, Failed, Fault}

-- what a cell of the branch is seen as
abbrev pub term_in : Naming → State → Cell → Term
term_in name s c = seen_term name s.heaps.now (family_of s.levels.current.sets) c

-- and what the range's variables are
abbrev pub slots_in : Naming → State → Range → List Cell → Substitution
slots_in name s r cells = shown_slots name s.heaps.now s.levels.current.sets r cells

-- The goal has no offence, and its range is linked on the heap now. The store's ranges are to be qs then, and the bounds of new variables.
pub record IsCellsPosted (name : Naming) (old : State) (target : Cell) (cells : List Cell)
    (r : Range) (now : Cells) (qs : List Indexical) : Type 0 where
  pub fine : cells_offence (term_in name old target) (slots_in name old r cells) r ≡ None
  pub slot : Term → ℕ
  pub touches : List Touch
  pub linked : IsTermsLinked old.heaps.now now old.levels.current.posted slot
      (Names (term_in name old target) (slots_in name old r cells) r) touches
  pub after : qs ≡ (old.levels.current.posted
      ++ cells_range slot (term_in name old target) (slots_in name old r cells) r ∷ [])
      ++ posts touches

-- what the goal did, by these names of atoms
abbrev pub PostsNamed : Naming → State → Cell → List Cell → Range → State → Step → Type 0
PostsNamed name old target cells r new Kept = ((qs : List Indexical)
    × IsCellsPosted name old target cells r new.heaps.now qs
    × PostsBounds old.infinity old.levels.current qs new.levels.current) × IsSound new
PostsNamed name old target cells r new Failed = ((qs : List Indexical)
    × IsCellsPosted name old target cells r new.heaps.now qs × HasNoModel old.infinity qs)
    × IsSoundBelow new
PostsNamed name old target cells r new (Fault f) = (cells_offence (term_in name old target)
    (slots_in name old r cells) r ≡ Some f) × (new ≡ old)

-- and by any
abbrev pub PostsCells : State → Cell → List Cell → Range → State → Step → Type 0
PostsCells old target cells r new step = (name : Naming)
    → PostsNamed name old target cells r new step
