-- A greatest number of variables, as ranges beside those that a store had: the store stands for the same.
use Rattle.std.proofs.Common.{◌≡◌, ℕ, ◌<◌, ◌≤◌, true, false, cond, ◌==◌, ◌&&◌, List, [], ◌∷◌, ◌++◌, Option, length, refl, sym, ◌∙◌, subst, inl}
use Rattle.std.proofs.Common.{inr, arith, eq-eqb, eqb-true}
use Rattle.std.specs.List.Sorted.{IsPermutation}
use Rattle.std.proofs.lemmas.List.Sorted.{IsPermutation-sym}
use Rattle.std.proofs.lemmas.Bool.{cases_Bool, or_cases, or_left, true≢false}
use Rattle.fd_language.specs.Term.{Var, Substitution}
use Rattle.fd_language.specs.Unifier.{Equation}
use Rattle.fd_language.specs.Family.{Family, has, universe, IsFamily, IsRising, IsSubset}
use Rattle.fd_language.specs.Range.{Indexical, set_of}
use Rattle.fd_language.proofs.Lemmas.{identity}
use Rattle.fd_model.specs.Bounds.{bound}
use Rattle.fd_model.specs.ClosedFamilies.{AllPosted, constrained}
use Rattle.fd_model.specs.Models.{IsModel}
use Rattle.fd_model.proofs.Lemmas.{closed_without, named_left, posted_both}
use Rattle.heap_cells.specs.Cells.{Cells}
use Rattle.branch_meaning.specs.Store.{IsStored}
use Rattle.branch_meaning.proofs.Lemmas.{front, holds_agree}
use Rattle.branch_lemmas.specs.VariableBounds.{IsBounded, AreBounds, IsBoundedMore}
use Rattle.branch_lemmas.specs.Frames.{link_in, IsKept}
use Rattle.fd_model.proofs.Lemmas.{bound_in, bound_low}
use Rattle.branch_lemmas.proofs.PermutedRanges.{model_permuted, named_permuted}

abbrev Holds : ℕ → Family → List Indexical → Type 0
Holds M S ps = AllPosted (λ p. IsSubset (S p.target) (set_of M S p.range)) ps

-- a bounded variable has no number beyond the bound
pub bounded_at : (M N : ℕ) (qs : List Indexical) (T : Family) (x : ℕ) → Holds M T qs → IsBounded N qs x → (i : ℕ) → has (T x) i ≡ true → i ≤ N
bounded_at M N [] T x h s i g = absurd s
bounded_at M N (q ∷ qs) T x h (inl e) i g = bound_low M N i T x ((subst (λ (p : Indexical). IsSubset (T p.target) (set_of M T p.range)) e h.0).each i g)
bounded_at M N (q ∷ qs) T x h (inr s) i g = bounded_at M N qs T x h.1 s i g

-- A model in the universe, where each variable that is named is bounded, has no number beyond the bound.
pub model_narrower : (M N : ℕ) (qs : List Indexical) → ((x : ℕ) → has (constrained qs) x ≡ true → (N ≡ M → ⊥) → IsBounded N qs x) → N ≤ M → (T : Family) → IsModel M M [] qs T → IsModel M N [] qs T
model_narrower M N qs each within T m = record {
  unifier = Var;
  general = identity;
  closed = closed_without M N qs T m.closed.family m.closed.posted low;
  full = m.full;
} where
  low : (x n : ℕ) → has (constrained qs) x ≡ true → has (T x) n ≡ true → n ≤ N
  low x n c h = elim (cases_Bool (N == M)) [
    | inl e ↦ (let same : N ≡ M = eqb-true N M e in let l = m.closed.within x n c h in omega (arith, same, l))
    | inr d ↦ bounded_at M N qs T x m.closed.posted (each x c (λ same. true≢false (sym (eq-eqb N M same) ∙ d))) n h
  ]

-- and the other way round
pub model_wider : (M N : ℕ) (qs : List Indexical) → N ≤ M → (T : Family) → IsModel M N [] qs T → IsModel M M [] qs T
model_wider M N qs within T m = record {
  unifier = Var;
  general = identity;
  closed = closed_without M M qs T m.closed.family m.closed.posted (λ x n c h. (let l = m.closed.within x n c h in omega (arith, l, within)));
  full = m.full;
}

-- the sets of S, and one number for each variable that isn't named
module _ (us : List ℕ) (S : Family) where
  unfoldable filled : Family
  filled x = cond (has us x) (S x) (0 ∷ [])

  filled_in : (x : ℕ) → has us x ≡ true → filled x ≡ S x
  unfolding filled
  filled_in x h = rw h refl

  filled_out : (x : ℕ) → has us x ≡ false → filled x ≡ 0 ∷ []
  unfolding filled
  filled_out x h = rw h refl

  filled_family : (M : ℕ) → IsFamily M S → IsFamily M filled
  filled_family M f = record {
    rising = λ x. elim (cases_Bool (has us x)) [
      | inl h ↦ subst (IsRising 0 M) (sym (filled_in x h)) (f.rising x)
      | inr h ↦ subst (IsRising 0 M) (sym (filled_out x h)) (omega arith, omega arith, tt)
    ];
  }

  module _ (N : ℕ) (low : (x n : ℕ) → has us x ≡ true → has (S x) n ≡ true → n ≤ N) where
    filled_low : (x n : ℕ) → has (filled x) n ≡ true → n ≤ N
    filled_low x n g = elim (cases_Bool (has us x)) [
      | inl h ↦ low x n h (subst (λ l. has l n ≡ true) (filled_in x h) g)
      | inr h ↦ elim (or_cases (0 == n) false (subst (λ l. has l n ≡ true) (filled_out x h) g)) [
        | inl e ↦ (let same : 0 ≡ n = eqb-true 0 n e in omega (arith, same))
        | inr e ↦ absurd (true≢false (sym e))
      ]
    ]

    filled_bounds : (M : ℕ) → N ≤ M → (bs : List Indexical) → AreBounds N bs → Holds M filled bs
    filled_bounds M within [] a = tt
    filled_bounds M within (q ∷ bs) a = (
      subst (λ (p : Indexical). IsSubset (filled p.target) (set_of M filled p.range)) (sym a.0.1) (record { each = λ n g. bound_in M N n filled a.0.0 (filled_low a.0.0 n g) within }),
      filled_bounds M within bs a.1,
    )

-- Bounds behind the ranges leave their models as they are.
pub model_bounded : (M N : ℕ) (qs bs : List Indexical) → N ≤ M → AreBounds N bs → (T : Family) → IsModel M N [] qs T
    → (R : Family) × IsModel M N [] (qs ++ bs) R × ((x : ℕ) → has (constrained qs) x ≡ true → R x ≡ T x)
model_bounded M N qs bs within a T m =
    let us = constrained qs in
    let R = filled us T in
    let same : (x : ℕ) → has us x ≡ true → R x ≡ T x = λ x c. filled_in us T x c in
    let low : (x n : ℕ) → has us x ≡ true → has (T x) n ≡ true → n ≤ N = λ x n c h. m.closed.within x n c h in (
      R,
      record {
        unifier = Var;
        general = identity;
        closed = closed_without M N (qs ++ bs) R (filled_family us T M m.closed.family)
            (posted_both (λ p. IsSubset (R p.target) (set_of M R p.range)) qs bs (holds_agree M R T qs same m.closed.posted) (filled_bounds us T N low M within bs a))
            (λ x n c h. filled_low us T N low x n h);
        full = λ x c. elim (cases_Bool (has us x)) [
          | inl h ↦ (let f = m.full x h in (f.0, subst (λ l. has l f.0 ≡ true) (sym (same x h)) f.1))
          | inr h ↦ (0, subst (λ l. has l 0 ≡ true) (sym (filled_out us T x h)) (or_left (0 == 0) false refl))
        ];
      },
      same,
    )

-- What a heap and a store stand for is the same then.
pub stored_bounded : (M N : ℕ) (es : List Equation) (ps : List Indexical) (P : ℕ → Type 0) (h : ℕ) (look : Substitution) (link : ℕ → Option ℕ) (slot : ℕ → ℕ) (qs now : List Indexical) → N ≤ M
    → IsBoundedMore N qs now → IsStored M N es ps P h look link slot qs → IsStored M N es ps P h look link slot now
stored_bounded M N es ps P h look link slot qs now within a s = record {
  heap = s.heap;
  used = s.used;
  down = λ T m. s.down T (front M N qs a.0 T (model_permuted M N now (qs ++ a.0) a.2 T m));
  up = λ S m. (
      let u = s.up S m in
      let w = model_bounded M N qs a.0 within a.1 u.0 u.1 in
      (w.0, model_permuted M N (qs ++ a.0) now back w.0 w.1, λ v c. w.2 (slot v) (s.slots v c) ∙ u.2 v c)
      );
  agrees = λ T m. s.agrees T (front M N qs a.0 T (model_permuted M N now (qs ++ a.0) a.2 T m));
  slots = λ v c. named_permuted (qs ++ a.0) now back (slot v) (named_left qs a.0 (slot v) (s.slots v c));
  linked = s.linked;
  from = s.from;
} where
  back : IsPermutation (qs ++ a.0) now
  back = IsPermutation-sym now (qs ++ a.0) a.2

pub kept_bounded : (M N : ℕ) (h : Cells) (qs now : List Indexical) (es : List Equation) (ps : List Indexical) (P : ℕ → Type 0) (look : Substitution) → N ≤ M
    → IsBoundedMore N qs now → IsKept M N h qs es ps P look → IsKept M N h now es ps P look
kept_bounded M N h qs now es ps P look within a k = record {
  slot = k.slot;
  stored = stored_bounded M N es ps P (length h.slots) look (link_in h) k.slot qs now within a k.stored;
}

-- Where the list with bounds has no model, the list has none.
pub none_bounded : (M N : ℕ) (qs bs : List Indexical) → N ≤ M → AreBounds N bs → ((T : Family) → IsModel M M [] (qs ++ bs) T → ⊥) → (T : Family) → IsModel M N [] qs T → ⊥
none_bounded M N qs bs within a none T m = (let w = model_bounded M N qs bs within a T m in none w.0 (model_wider M N (qs ++ bs) within w.0 w.1))
