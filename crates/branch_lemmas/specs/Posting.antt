-- What becomes of a heap and a store where ranges are posted.
use Rattle.std.specs.Prelude.{◌≡◌, ℕ, List, length, Option, Some, ◌⊎◌, [], ◌∷◌}
use Rattle.fd_language.specs.Term.{Substitution, apply}
use Rattle.fd_language.specs.Range.{Indexical}
use Rattle.fd_model.specs.LinearRows.{Expansion}
use Rattle.heap_cells.specs.declared.Cell.{Cell}
use Rattle.heap_cells.specs.Cells.{Cells, IsOf}
use Rattle.heap_cells.specs.Terms.{Naming, term_of}
use Rattle.branch_meaning.specs.Rows.{AreJoined}
use Rattle.branch_meaning.specs.Store.{Touch, IsUnified}
use Rattle.branch_lemmas.specs.Frames.{link_in}
use Rattle.heap_cells.specs.HeapInvariant.{IsHeap}
use Rattle.fd_model.specs.ConstraintExpansion.{equations}

-- the pair is one of the list
abbrev pub Listed : ℕ → ℕ → List (ℕ × ℕ) → Type 0
Listed c k [] = ⊥
Listed c k (p ∷ ps) = ((c ≡ p.0) × (k ≡ p.1)) ⊎ Listed c k ps

-- The heap now has the terms of the heap h; its variables of the store are those of h and these, each one's own.
pub record IsLinkedMore (h now : Cells) (more : List (ℕ × ℕ)) : Type 0 where
  pub valid : IsHeap now
  pub size : length now.slots ≡ length h.slots
  pub parts : now.compounds ≡ h.compounds
  pub terms : (name : Naming) (c : Cell) → IsOf h c → term_of name now c ≡ term_of name h c
  pub keep : (c k : ℕ) → link_in h c ≡ Some k → link_in now c ≡ Some k
  pub new : (c k : ℕ) → link_in now c ≡ Some k → (link_in h c ≡ Some k) ⊎ Listed c k more
  pub one : (c d k : ℕ) → link_in now c ≡ Some k → link_in now d ≡ Some k → c ≡ d

-- What the heap and the store become by a row y over variables of the heap h, of which the fresh ones are the next: its ranges are linked and posted, and its
-- equations unified.
pub record IsRowLinked (h now : Cells) (qs : List Indexical) (y : Expansion) (link' : ℕ → Option ℕ)
    (qs' : List Indexical) (new : Substitution) (ts : List Touch) : Type 0 where
  pub joined : AreJoined (link_in h) qs y.ranges link' qs'
  pub unified : IsUnified y.fresh link' (equations y.equated) new (link_in now) ts
  pub size : length now.slots ≡ y.fresh
  pub own : (c : Cell) → IsOf h c → IsOf now c
  pub terms : (name : Naming) (c : Cell) → IsOf h c
      → term_of name now c ≡ apply new (term_of name h c)
