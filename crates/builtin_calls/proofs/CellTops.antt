-- What a cell shows through the sets of a store.
use Rattle.std.proofs.Common.{◌≡◌, ℕ, pos, List, [], ◌∷◌, Some, None, refl, sym, ◌∙◌, Bor}
use Rattle.fd_language.specs.Term.{Name, Terms, Int, Comp}
use Rattle.fd_language.specs.Family.{Family}
use Rattle.term_pool.specs.declared.AtomId.{AtomId}
use Rattle.heap_cells.specs.declared.Cell.{Cell}
use Rattle.heap_cells.specs.declared.Seen.{Seen}
use Rattle.heap_cells.specs.declared.Seen.TheVariants as seen
use Rattle.heap_cells.specs.Cells.{Cells}
use Rattle.heap_cells.specs.Terms.{Naming}
use Rattle.heap_cells.specs.SeenCells.{IsSeen}
use Rattle.heap_cells.specs.HeapInvariant.{IsHeap}
use Rattle.heap_cells.proofs.Lemmas.{shown_atom, shown_compound, shown_free, shown_int, shown_linked}
use Rattle.fd_language.specs.SingleValues.{only, value_in}
use Rattle.heap_cells.specs.SeenTerms.{seen_term}
use Rattle.domain_ranges.proofs.Lemmas.{one_value, no_value}
use Rattle.builtin_calls.specs.CellTops.{shown, IsHeld}

module _ (name : Naming) (h : Cells) (G : Family) (valid : IsHeap h) (c : Cell) where
  -- a variable of the store with one value
  pub shown_value : (i k w : ℕ) → IsSeen h c (seen.Constrained i k) → only (G k) ≡ Some w → seen_term name h G c ≡ Int (pos w)
  shown_value i k w s e = shown_linked name h valid G c i k s.1 s.2 ∙ one_value (G k) w i e

  -- what is seen, unless it is a variable of the store with one value
  pub shown_else : (y : Seen) → IsSeen h c y → ((i k : ℕ) → y ≡ seen.Constrained i k → only (G k) ≡ None) → seen_term name h G c ≡ shown name (seen_term name h G) y
  shown_else (seen.Open i) s n = shown_free name h valid G c i s.1 s.2
  shown_else (seen.Constrained i k) s n = shown_linked name h valid G c i k s.1 s.2 ∙ no_value (G k) i (n i k refl)
  shown_else (seen.Int z) s n = shown_int name h valid G c z s
  shown_else (seen.Atom a) s n = shown_atom name h valid G c a s
  shown_else (seen.Struct f args) s n = shown_compound name h valid G c f args.now s.0 s.2 s.3

  simple_value : (xs : List ℕ) (i : ℕ) (f : Name) (ts : Terms) → value_in xs i ≡ Comp f ts → ⊥
  simple_value [] i f ts e = cc
  simple_value (w ∷ []) i f ts e = cc
  simple_value (w ∷ v ∷ ws) i f ts e = cc

  -- what is seen is no compound term, and neither is the term
  pub simple_seen : (y : Seen) → IsSeen h c y → ((f : AtomId) (args : Bor (List Cell)) → y ≡ seen.Struct f args → ⊥) → (f : Name) (ts : Terms) → seen_term name h G c ≡ Comp f ts → ⊥
  simple_seen (seen.Open i) s n f ts e = let k = sym (shown_else (seen.Open i) s (λ j m x. cc)) ∙ e in cc
  simple_seen (seen.Constrained i k) s n f ts e = simple_value (G k) i f ts (sym (shown_linked name h valid G c i k s.1 s.2) ∙ e)
  simple_seen (seen.Int z) s n f ts e = let k = sym (shown_else (seen.Int z) s (λ j m x. cc)) ∙ e in cc
  simple_seen (seen.Atom a) s n f ts e = let k = sym (shown_else (seen.Atom a) s (λ j m x. cc)) ∙ e in cc
  simple_seen (seen.Struct g args) s n f ts e = absurd (n g args refl)

-- a variable of the store is seen with its number
pub number_same : (i k j m : ℕ) → seen.Constrained i k ≡ seen.Constrained j m → m ≡ k
number_same i k j m e = let f : k ≡ m = cc in sym f

-- a compound term that is seen is one of the heap's
pub held_seen : (h : Cells) (c : Cell) (y : Seen) → IsSeen h c y → IsHeld h y
held_seen h c (seen.Open i) s = tt
held_seen h c (seen.Constrained i k) s = tt
held_seen h c (seen.Int z) s = tt
held_seen h c (seen.Atom a) s = tt
held_seen h c (seen.Struct f args) s = (s.0, s.1, s.2)
