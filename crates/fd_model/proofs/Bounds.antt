-- A greatest number of variables is a range that is posted on each of them.
use Rattle.std.proofs.Common.{◌≡◌, ℕ, ◌≤◌, true, false, cond, ◌==◌, ◌&&◌, int_le, pos, List, [], ◌∷◌, ◌++◌, refl, sym, subst, inl, inr, arith, eq-eqb}
use Rattle.std.proofs.lemmas.Bool.{or_cases, or_left, or_right, cases_Bool}
use Rattle.std.proofs.lemmas.Int.{ints}
use Rattle.fd_language.specs.Term.{Var}
use Rattle.fd_language.specs.Family.{Family, has, universe, IsFamily, IsRising, IsSubset}
use Rattle.fd_language.specs.Range.{Indexical, reads, set_of, in_set}
use Rattle.fd_model.specs.Answers.{Somewhere}
use Rattle.fd_model.specs.ClosedFamilies.{AllPosted, constrained}
use Rattle.fd_model.specs.Bounds.{bound, HasBounds, no_bounds, posted, bounded, BoundedModels}
use Rattle.fd_language.proofs.Lemmas.{has_high, has-filter, has-filter_back, in_universe, universe_rising, in_left, in_right, has_either, set_agree, identity}
use Rattle.fd_model.proofs.ValueBranches.{rising_within}
use Rattle.fd_model.proofs.Orders.{closed_without, whole}

abbrev Holds : ℕ → Family → List Indexical → Type 0
Holds M S ps = AllPosted (λ p. IsSubset (S p.target) (set_of M S p.range)) ps

-- what a bound says
pub bound_low : (M N i : ℕ) (S : Family) (x : ℕ) → has (set_of M S (bound N x).range) i ≡ true → i ≤ N
bound_low M N i S x h = low i N (has-filter_back (in_set M S (bound N x).range) (universe M) i h).1
  where
    low : (i N : ℕ) → (int_le (pos 0) (pos i) && int_le (pos i) (pos N)) ≡ true → i ≤ N
    low i N g = grind (arith, ints)

pub bound_in : (M N i : ℕ) (S : Family) (x : ℕ) → i ≤ N → N ≤ M → has (set_of M S (bound N x).range) i ≡ true
bound_in M N i S x l h = has-filter (in_set M S (bound N x).range) (universe M) i (in_universe M i (omega arith)) (both i N l)
  where
    both : (i N : ℕ) → i ≤ N → (int_le (pos 0) (pos i) && int_le (pos i) (pos N)) ≡ true
    both i N l = grind (arith, ints)

bounded_at : (M N : ℕ) (qs : List Indexical) (T : Family) (x : ℕ) → Holds M T qs → Somewhere (λ q. q ≡ bound N x) qs → (i : ℕ) → has (T x) i ≡ true → i ≤ N
bounded_at M N [] T x h s i g = absurd s
bounded_at M N (q ∷ qs) T x h (inl e) i g = bound_low M N i T x ((subst (λ (p : Indexical). IsSubset (T p.target) (set_of M T p.range)) e h.0).each i g)
bounded_at M N (q ∷ qs) T x h (inr s) i g = bounded_at M N qs T x h.1 s i g

-- the ranges without the bounds
fewer_hold : (M N : ℕ) (T : Family) {ps qs : List Indexical} → HasBounds N ps qs → Holds M T qs → Holds M T ps
fewer_hold M N T no_bounds h = tt
fewer_hold M N T (posted p b) h = (h.0, fewer_hold M N T b h.1)
fewer_hold M N T (bounded x b) h = fewer_hold M N T b h.1

fewer_named : (N : ℕ) {ps qs : List Indexical} → HasBounds N ps qs → (x : ℕ) → has (constrained ps) x ≡ true → has (constrained qs) x ≡ true
fewer_named N no_bounds x c = c
fewer_named N (posted {ps = ps} {qs = qs} p b) x c = elim (or_cases (p.target == x) (has (reads p.range ++ constrained ps) x) c) [
  | inl e ↦ or_left (p.target == x) (has (reads p.range ++ constrained qs) x) e
  | inr e ↦ or_right (p.target == x) (has (reads p.range ++ constrained qs) x) (elim (has_either (reads p.range) (constrained ps) x e) [
    | inl r ↦ in_left (reads p.range) (constrained qs) x r
    | inr r ↦ in_right (reads p.range) (constrained qs) x (fewer_named N b x r)
  ])
]
fewer_named N (bounded {qs = qs} y b) x c = or_right (y == x) (has (constrained qs) x) (fewer_named N b x c)

-- the sets of S, and all numbers up to N for variables on which nothing else is posted
module _ (M N : ℕ) (within : N ≤ M) (us : List ℕ) (S : Family) where
  unfoldable filled : Family
  filled x = cond (has us x) (S x) (universe N)

  filled_in : (x : ℕ) → has us x ≡ true → filled x ≡ S x
  unfolding filled
  filled_in x h = rw h refl

  filled_out : (x : ℕ) → has us x ≡ false → filled x ≡ universe N
  unfolding filled
  filled_out x h = rw h refl

  wide : IsRising 0 M (universe N)
  wide = rising_within 0 N M (universe N) (universe_rising N) (λ n h. let l = has_high 0 N (universe N) n (universe_rising N) h in omega (arith, l))

  filled_family : IsFamily M S → IsFamily M filled
  filled_family f = record { rising = λ x. elim (cases_Bool (has us x)) [ inl h ↦ subst (IsRising 0 M) (sym (filled_in x h)) (f.rising x) | inr h ↦ subst (IsRising 0 M) (sym (filled_out x h)) wide ] }

  module _ (low : (x n : ℕ) → has us x ≡ true → has (S x) n ≡ true → n ≤ N) where
    filled_low : (x n : ℕ) → has (filled x) n ≡ true → n ≤ N
    filled_low x n g = elim (cases_Bool (has us x)) [
      | inl h ↦ low x n h (subst (λ l. has l n ≡ true) (filled_in x h) g)
      | inr h ↦ has_high 0 N (universe N) n (universe_rising N) (subst (λ l. has l n ≡ true) (filled_out x h) g)
    ]

    filled_holds : {ps qs : List Indexical} → HasBounds N ps qs → ((x : ℕ) → has (constrained ps) x ≡ true → has us x ≡ true) → Holds M S ps → Holds M filled qs
    filled_holds no_bounds named h = tt
    filled_holds (posted {ps = ps} p b) named h = (
      subst (λ l. IsSubset l (set_of M filled p.range)) (sym (filled_in p.target (named p.target (or_left (p.target == p.target) _ (eq-eqb p.target p.target refl)))))
          (subst (IsSubset (S p.target)) (sym (set_agree M filled S p.range (λ y c. filled_in y (named y (or_right (p.target == y) _ (in_left (reads p.range) (constrained ps) y c)))))) h.0),
      filled_holds b (λ x c. named x (or_right (p.target == x) _ (in_right (reads p.range) (constrained ps) x c))) h.1,
    )
    filled_holds (bounded x b) named h = (record { each = λ n g. bound_in M N n filled x (filled_low x n g) within }, filled_holds b named h)

pub bounded_models : BoundedModels
bounded_models M N ps qs within b each = record {
  there = λ T m. record {
    unifier = Var;
    general = identity;
    closed = closed_without M N ps T m.closed.family (fewer_hold M N T b m.closed.posted) (λ x n c h. bounded_at M N qs T x m.closed.posted (each x c) n h);
    full = λ x c. m.full x (fewer_named N b x c);
  };
  back = λ S m. (let us = constrained ps in (
    filled M N within us S,
    record {
      unifier = Var;
      general = identity;
      closed = whole M qs (filled M N within us S) (filled_family M N within us S m.closed.family) (filled_holds M N within us S (λ x n c h. m.closed.within x n c h) b (λ x c. c) m.closed.posted);
      full = λ x c. elim (cases_Bool (has us x)) [
        | inl h ↦ let f = m.full x h in (f.0, subst (λ l. has l f.0 ≡ true) (sym (filled_in M N within us S x h)) f.1)
        | inr h ↦ (0, subst (λ l. has l 0 ≡ true) (sym (filled_out M N within us S x h)) (in_universe N 0 (omega arith)))
      ];
    },
    λ x c. filled_in M N within us S x c,
    λ x c. elim (cases_Bool (has us x)) [ inl h ↦ absurd (c h) | inr h ↦ filled_out M N within us S x h ],
  ));
}
