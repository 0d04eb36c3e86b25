-- The cells of a list, from its end.
use Rattle.std.proofs.Common.{◌≡◌, ℕ, ◌+◌, ◌<◌, ◌≤◌, List, [], ◌∷◌, ◌++◌, length, take, refl, sym, ap, ◌∙◌, arith, get_or}
use Rattle.std.proofs.lemmas.List.{take_more}
use Rattle.fd_language.specs.Term.{Name}
use Rattle.fd_language.specs.PlacedTerm.{PlacedTerm, PlacedTerms, comp, no_parts, part, two, with_last}
use Rattle.fd_language.specs.Grammar.{list_of, cons_name}
use Rattle.term_pool.specs.declared.TermId.{TermId}
use Rattle.term_pool.specs.declared.TheConstants.{CONS}
use Rattle.term_pool.specs.Contents.{Contents, atom_name}
use Rattle.term_pool.specs.Terms.{Extends}
use Rattle.term_pool.specs.PoolInvariant.{IsPool}
use Rattle.term_pool.proofs.Lemmas.{extends_trans}
use Rattle.term_pool.specs.PlacedTerms.{placed_of}
use Rattle.term_reader.specs.PlacedTerms.{parts_of, Adds}
use Rattle.term_reader.specs.View.{AreTerms}
use Rattle.term_reader.proofs.PlacedLaws.{placed_kept, parts_of-last, parts_of_none, parts_of_two}

-- ---- lists

list_of-last : (p : ℕ) (xs : PlacedTerms) (x t : PlacedTerm) → list_of p (with_last xs x) t ≡ list_of p xs (comp cons_name p (two x t))
list_of-last p no_parts x t = refl
list_of-last p (part y ys) x t = ap (λ (u : PlacedTerm). comp cons_name p (two y u)) (list_of-last p ys x t)

-- The first count elements are left, and the term stands for the others before the tail.
pub record ListSoFar (c d : Contents) (elements : List TermId) (place count : ℕ) (last term : TermId) : Type 0 where
  pub within : count ≤ length elements
  pub same : list_of place (parts_of c (take count elements)) (placed_of d term) ≡ list_of place (parts_of c elements) (placed_of c last)
  pub grows : Extends c d
  pub valid : IsPool d
  pub stands : term.number < length d.entries

pub list_ends : (c d : Contents) (elements : List TermId) (place count : ℕ) (last term : TermId) → ListSoFar c d elements place count last term → count ≡ 0
    → Adds c d (list_of place (parts_of c elements) (placed_of c last)) term
list_ends c d elements place count last term k e = record {
  grows = k.grows;
  valid = k.valid;
  within = k.stands;
  is = sym (ap (λ (n : ℕ). list_of place (parts_of c (take n elements)) (placed_of d term)) e ∙ ap (λ (xs : PlacedTerms). list_of place xs (placed_of d term)) (parts_of_none c)) ∙ k.same;
}

-- the element before the others goes into a cell
pub list_goes_on : (c d e : Contents) (elements : List TermId) (place count : ℕ) (last term cell d0 : TermId) → IsPool c → AreTerms c elements → ListSoFar c d elements place (count + 1) last term
    → Adds d e (comp (atom_name d CONS) place (parts_of d (get_or elements count d0 ∷ term ∷ []))) cell → ListSoFar c e elements place count last cell
list_goes_on c d e elements place count last term cell d0 v terms k a =
    let x = get_or elements count d0 in
    let mine : x.number < length c.entries = terms count d0 (omega (arith, k.within)) in
    let split : take (count + 1) elements ≡ take count elements ++ x ∷ [] = take_more elements count d0 (omega (arith, k.within)) in
    let parts : parts_of c (take (count + 1) elements) ≡ with_last (parts_of c (take count elements)) (placed_of c x) = ap (parts_of c) split ∙ parts_of-last c (take count elements) x in
    let cell_is : placed_of e cell ≡ comp cons_name place (two (placed_of c x) (placed_of d term)) =
    a.is ∙ ap (λ (n : Name). comp n place (parts_of d (x ∷ term ∷ []))) k.valid.cons
    ∙ ap (comp cons_name place) (parts_of_two d x term)
    ∙ ap (λ (u : PlacedTerm). comp cons_name place (two u (placed_of d term))) (placed_kept c d v k.grows x mine) in
    record {
      within = omega (arith, k.within);
      same = ap (λ (u : PlacedTerm). list_of place (parts_of c (take count elements)) u) cell_is
          ∙ sym (list_of-last place (parts_of c (take count elements)) (placed_of c x) (placed_of d term))
          ∙ ap (λ (xs : PlacedTerms). list_of place xs (placed_of d term)) (sym parts)
          ∙ k.same;
      grows = extends_trans c d e k.grows a.grows;
      valid = a.valid;
      stands = a.within;
    }
