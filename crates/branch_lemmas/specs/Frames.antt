-- The frame of a heap and a store's ranges, and what is kept of a branch in it.
use Rattle.std.specs.Prelude.{◌≡◌, ℕ, ◌≤◌, List, length, map}
use Rattle.fd_language.specs.Term.{Substitution}
use Rattle.fd_language.specs.Unifier.{Equation}
use Rattle.fd_language.specs.Range.{Indexical}
use Rattle.heap_cells.specs.declared.Cell.TheVariants as cell
use Rattle.heap_cells.specs.Cells.{Cells, slot_at}
pub use Rattle.heap_cells.specs.SeenTerms.{link_of, link_in}
use Rattle.heap_cells.specs.Terms.{Naming, term_of, KeepsTerms}
use Rattle.unify_core.specs.declared.Touch.{Touch}
use Rattle.unify_core.specs.declared.Touch.TheVariants as touch
use Rattle.branch_meaning.specs.Store as store
use Rattle.branch_meaning.specs.Store.{IsStored}
use Rattle.branch_meaning.specs.HeldBranches.{HeldState}

-- the frame of the heap h and a store with the ranges qs
abbrev pub held_of : Naming → Cells → List Indexical → HeldState
held_of name h qs = record {
  heap = λ c. term_of name h (cell.Ref c);
  cells = length h.slots;
  link = link_in h;
  store = qs;
}

-- the touches as the machine relation has them
abbrev pub store_touch : Touch → store.Touch
store_touch (touch.Value k z) = store.Value k z
store_touch (touch.Same k j) = store.Same k j

abbrev pub store_touches : List Touch → List store.Touch
store_touches ts = map store_touch ts

-- The heap h and the ranges qs stand for the equations es and the ranges ps. look takes each known variable, that is each of P, to its term over the heap's
-- variables. No variable of the heap is bound for having one value.
pub record IsKept (M N : ℕ) (h : Cells) (qs : List Indexical) (es : List Equation)
    (ps : List Indexical) (P : ℕ → Type 0) (look : Substitution) : Type 0 where
  pub slot : ℕ → ℕ
  pub stored : IsStored M N es ps P (length h.slots) look (link_in h) slot qs

-- the heap with more open variables and compound terms
pub record IsGrown (old now : Cells) : Type 0 where
  pub slots : (i : ℕ) → slot_at now i ≡ slot_at old i
  pub longer : length old.slots ≤ length now.slots
  pub parts : length old.compounds ≤ length now.compounds
  pub terms : KeepsTerms old now
