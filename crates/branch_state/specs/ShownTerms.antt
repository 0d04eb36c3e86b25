-- What a branch shows of cells.
use Rattle.std.specs.Prelude.{◌≡◌, ℕ, ◌<◌, List, [], ◌∷◌, length, map, All, Option, Some, None}
use Rattle.fd_language.specs.Term.{Name, Term}
use Rattle.fd_language.specs.Needs.{once}
use Rattle.fd_language.specs.Variables.{variables_of_all, distinct}
use Rattle.fd_model.specs.Lines.{as_terms}
use Rattle.heap_cells.specs.declared.Cell.{Cell}
use Rattle.heap_cells.specs.Cells.{Cells, IsOf}
use Rattle.heap_cells.specs.Atoms.{IsAtomBelow}
use Rattle.heap_cells.specs.SeenTerms.{seen_term}
use Rattle.branch_meaning.specs.HeldBranches.{link_at}
use Rattle.branch_meaning.specs.AnswerTexts.{cell_set}
use Rattle.range_code.specs.Frames.{family_of}
use Rattle.term_pool.specs.declared.TermId.{TermId}
use Rattle.term_pool.specs.Contents.{Contents}
use Rattle.term_pool.specs.Terms.{term_of as pool_term}
use Rattle.branch_lemmas.specs.Frames.{link_in}
use Rattle.branch_lemmas.specs.AtomNames.{full}
use Rattle.machine_events.specs.declared.Shown.{Shown}

-- the cells as they are read
abbrev pub terms_read : List Name → Cells → List (List ℕ) → List Cell → List Term
terms_read names h sets cs = map (seen_term (full names) h (family_of sets)) cs

-- the set of a variable of the heap that is the store's and has several values
abbrev pub open_set : Cells → List (List ℕ) → ℕ → Option (List ℕ)
open_set h sets c = cell_set (family_of sets) (link_at (link_in h c) (family_of sets))

abbrev pub with_set : ℕ → Option (List ℕ) → List (ℕ × List ℕ) → List (ℕ × List ℕ)
with_set c None ps = ps
with_set c (Some xs) ps = (c, xs) ∷ ps

-- those of the variables that have a set, with it
abbrev pub with_sets : (ℕ → Option (List ℕ)) → List ℕ → List (ℕ × List ℕ)
with_sets set [] = []
with_sets set (c ∷ cs) = with_set c (set c) (with_sets set cs)

-- Each cell as it is read, and the sets of the variables that occur, each once, in order of first occurrence.
pub record IsShown (names : List Name) (h : Cells) (sets : List (List ℕ)) (cells : List Cell)
    (x : Shown) : Type 0 where
  pub own : All (λ t. t.number < length x.pool.entries) x.terms.items
  pub terms : map (pool_term x.pool) x.terms.items ≡ terms_read names h sets cells
  pub sets_of : x.sets.items ≡ with_sets (open_set h sets)
      (distinct (variables_of_all (as_terms (terms_read names h sets cells))))

-- the cells are of the heap, and name the first n atoms
abbrev pub AreShowable : ℕ → Cells → List Cell → Type 0
AreShowable n h cs = All (λ c. IsOf h c × IsAtomBelow n c) cs

-- the variables of terms of a pool, where each occurs
abbrev pub variables_at : Contents → List TermId → List ℕ
variables_at p ts = variables_of_all (as_terms (map (pool_term p) ts))

-- the variables of a list that were gathered, each once, with their sets
pub record AreGathered (set : ℕ → Option (List ℕ)) (xs keys : List ℕ)
    (ps : List (ℕ × List ℕ)) : Type 0 where
  pub keys_are : keys ≡ once xs
  pub sets_are : ps ≡ with_sets set (once xs)
