-- The term that a cell is seen as, by its end.
use Rattle.std.proofs.Common.{◌≡◌, ℕ, false, ℤ, List, ap, ◌∙◌}
use Rattle.fd_language.specs.Family.{Family}
use Rattle.fd_language.specs.SingleValues.{value_in, value_at}
use Rattle.fd_language.specs.Term.{Var, Int, Atom, Comp}
use Rattle.term_pool.specs.declared.AtomId.{AtomId}
use Rattle.heap_cells.specs.declared.Cell.{Cell}
use Rattle.heap_cells.specs.declared.Cell.TheVariants as cell
use Rattle.heap_cells.specs.Cells.{Cells, Compound, free, linked, is_bound, slot_at, compound_at}
use Rattle.heap_cells.specs.SeenTerms.{link_of, link_in, read_term, seen_term}
use Rattle.heap_cells.specs.Terms.{Naming, Same, term_of, terms_by}
use Rattle.heap_cells.specs.HeapInvariant.{IsHeap}
use Rattle.heap_cells.proofs.Bindings.{apply-terms_by}
use Rattle.heap_cells.proofs.Ranks.{term-Int, term-Atom, term-Struct, unbound_term}

module _ (name : Naming) (h : Cells) (valid : IsHeap h) (G : Family) (c : Cell) where
  shown_variable : (i : ℕ) → is_bound (slot_at h i) ≡ false → Same h c (cell.Ref i) → seen_term name h G c ≡ value_at (link_in h i) G i
  shown_variable i e s = ap (read_term h G) (s name ∙ unbound_term name h valid i e)

  pub shown_free : (i : ℕ) → slot_at h i ≡ free → Same h c (cell.Ref i) → seen_term name h G c ≡ Var i
  shown_free i e s = shown_variable i (ap is_bound e) s ∙ ap (λ o. value_at o G i) (ap link_of e)

  pub shown_linked : (i k : ℕ) → slot_at h i ≡ linked k → Same h c (cell.Ref i) → seen_term name h G c ≡ value_in (G k) i
  shown_linked i k e s = shown_variable i (ap is_bound e) s ∙ ap (λ o. value_at o G i) (ap link_of e)

  pub shown_int : (z : ℤ) → Same h c (cell.Int z) → seen_term name h G c ≡ Int z
  shown_int z s = ap (read_term h G) (s name ∙ term-Int name h valid z)

  pub shown_atom : (a : AtomId) → Same h c (cell.Atom a) → seen_term name h G c ≡ Atom (name a)
  shown_atom a s = ap (read_term h G) (s name ∙ term-Atom name h valid a)

  pub shown_compound : (f : AtomId) (args : List Cell) (j : ℕ) → compound_at h j ≡ record { name = f; args = args } → Same h c (cell.Struct j)
      → seen_term name h G c ≡ Comp (name f) (terms_by (seen_term name h G) args)
  shown_compound f args j e s =
      ap (read_term h G) (s name ∙ term-Struct name h valid j ∙ ap (λ (k : Compound). Comp (name k.name) (terms_by (term_of name h) k.args)) e)
      ∙ ap (Comp (name f)) (apply-terms_by (λ d. value_at (link_in h d) G d) (term_of name h) args)
