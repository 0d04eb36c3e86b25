-- The sets that posted ranges leave, and what becomes of them where more is posted.
use Rattle.std.proofs.Common.{◌≡◌, ℕ, ◌≤ℤ◌, Bool, true, false, cond, ◌==◌, List, [], ◌∷◌, ◌++◌, pos, refl, ap, sym, ◌∙◌, subst, inl, inr, arith, eq-eqb, ne_eqb}
use Rattle.std.proofs.lemmas.Bool.{or_left, or_right, cases_Bool, true≢false}
use Rattle.std.proofs.lemmas.Int.{ints}
use mathlib.Core.Path.{fun_ext}
use Rattle.fd_language.specs.Term.{Var}
use Rattle.fd_language.specs.Family.{Family, has, universe, IsFamily, IsRising, IsInside, IsSubset}
use Rattle.fd_language.specs.Range.{Indexical, in_set, set_of, reads}
use Rattle.fd_language.specs.Monotonicity.{IsMonotone}
use Rattle.fd_language.proofs.Lemmas.{identity, rising_same, universe_rising, in_universe, set_agree, in_left, in_right, has_high, rising-filter}
use Rattle.fd_model.specs.ClosedFamilies.{AllPosted, constrained}
use Rattle.fd_model.specs.Domains.{Domains}
use Rattle.fd_model.specs.BranchViews.{IsConsistent}
use Rattle.fd_model.specs.PostedLeaves.{AreLeft, exactly, with_value}
use Rattle.fd_model.proofs.ClosedFamilies.{closed_either, greatest_for}
use Rattle.fd_model.proofs.Constants.{in_span, from_span}
use Rattle.fd_model.proofs.AddedRanges.{posted_both}
use Rattle.fd_model.proofs.ListNames.{posted_left, posted_right}
use Rattle.fd_model.proofs.Orders.{whole}

abbrev pub AllMonotone : ℕ → List Indexical → Type 0
AllMonotone M ps = AllPosted (λ p. IsMonotone M p.range) ps

-- the ranges of a list, in the family
abbrev pub InRanges : ℕ → Family → List Indexical → Type 0
InRanges M S ps = AllPosted (λ p. IsSubset (S p.target) (set_of M S p.range)) ps

-- ranges of numbers only shrink, since they stay as they are
pub exactly_monotone : (M x n : ℕ) → IsMonotone M (exactly x n).range
exactly_monotone M x n = record {
  grows = λ S T f g i. record {
    each = λ k h. (let b = from_span M S (pos n) (pos n) k h in in_span M T (pos n) (pos n) k (has_high 0 M (set_of M S (exactly x n).range) k (span_rising S) h) b.0 b.1);
  };
}
  where
    span_rising : (S : Family) → IsRising 0 M (set_of M S (exactly x n).range)
    span_rising S = rising-filter (in_set M S (exactly x n).range) 0 M (universe M) (universe_rising M)

pub monotone_more : (M : ℕ) (ps : List Indexical) (x n : ℕ) → AllMonotone M ps → AllMonotone M (with_value ps x n)
monotone_more M ps x n m = posted_both (λ p. IsMonotone M p.range) ps (exactly x n ∷ []) m (exactly_monotone M x n, tt)

-- there are such sets, and they lie in the ranges
left_with : (M : ℕ) (ps : List Indexical) → AllMonotone M ps → (D : Family) × AreLeft M ps D × InRanges M D ps
left_with M ps m =
    let d = greatest_for M M Var ps m in (
      d.0,
      record {
        family = d.1.family;
        domains = λ x n. (
          (λ h. record { unifier = Var; general = identity; family = d.0; closed = d.1; member = h }),
          (λ e. ((d.2 e.family (closed_either M M [] Var e.unifier ps e.family identity e.general e.closed)).at x).each n e.member),
        );
      },
      d.1.posted,
    )

pub left_there : (M : ℕ) (ps : List Indexical) → AllMonotone M ps → (D : Family) × AreLeft M ps D
left_there M ps m = let d = left_with M ps m in (d.0, d.1)

-- and no others
pub left_once : (M : ℕ) (ps : List Indexical) (D E : Family) → AreLeft M ps D → AreLeft M ps E → D ≡ E
left_once M ps D E d e = fun_ext (λ x. rising_same 0 M (D x) (E x) (d.family.rising x) (e.family.rising x)
    (record { each = λ n h. (e.domains x n).1 ((d.domains x n).0 h) })
    (record { each = λ n h. (d.domains x n).1 ((e.domains x n).0 h) }))

-- they lie in the ranges
pub left_ranges : (M : ℕ) (ps : List Indexical) (D : Family) → AllMonotone M ps → AreLeft M ps D → InRanges M D ps
left_ranges M ps D m d = let e = left_with M ps m in subst (λ (S : Family). InRanges M S ps) (left_once M ps e.0 D e.1 d) e.2

-- a family that the ranges don't narrow has what Domains gives
pub domains_from : (M : ℕ) (ps : List Indexical) (S : Family) (x n : ℕ) → IsFamily M S → InRanges M S ps → has (S x) n ≡ true → Domains M M [] ps x n
domains_from M ps S x n f r h = record { unifier = Var; general = identity; family = S; closed = whole M ps S f r; member = h }

-- more posted ranges leave less
pub left_narrower : (M : ℕ) (ps qs : List Indexical) (D E : Family) → AreLeft M ps D → AreLeft M (ps ++ qs) E → IsInside E D
left_narrower M ps qs D E d e = record {
  at = λ x. record {
    each = λ n h.
        let w = (e.domains x n).0 h in
        (d.domains x n).1 (domains_from M ps w.family x n w.closed.family (posted_left (λ p. IsSubset (w.family p.target) (set_of M w.family p.range)) ps qs w.closed.posted) w.member);
  };
}

-- a variable with a value has no other
pub left_exactly : (M : ℕ) (ps : List Indexical) (x n : ℕ) (E : Family) → AreLeft M (with_value ps x n) E → (k : ℕ) → has (E x) k ≡ true → k ≡ n
left_exactly M ps x n E e k h =
    let w = (e.domains x k).0 h in
    let r = posted_right (λ p. IsSubset (w.family p.target) (set_of M w.family p.range)) ps (exactly x n ∷ []) w.closed.posted in
    same_number k n (from_span M w.family (pos n) (pos n) k (r.0.each k w.member))
  where
    same_number : (k n : ℕ) → (pos n ≤ℤ pos k) × (pos k ≤ℤ pos n) → k ≡ n
    same_number k n b = let low = b.0 in let high = b.1 in omega (arith, ints)

-- the ranges speak of the constrained variables alone
in_ranges_agree : (M : ℕ) (T S : Family) (ps : List Indexical) → ((v : ℕ) → has (constrained ps) v ≡ true → T v ≡ S v) → InRanges M S ps → InRanges M T ps
in_ranges_agree M T S [] h g = tt
in_ranges_agree M T S (p ∷ ps) h g = (
  subst (λ l. IsSubset l (set_of M T p.range)) (sym (h p.target (or_left (p.target == p.target) (has (reads p.range ++ constrained ps) p.target) (eq-eqb p.target p.target refl))))
      (subst (IsSubset (S p.target)) (sym (set_agree M T S p.range
      (λ v c. h v (or_right (p.target == v) (has (reads p.range ++ constrained ps) v) (in_left (reads p.range) (constrained ps) v c))))) g.0),
  in_ranges_agree M T S ps (λ v c. h v (or_right (p.target == v) (has (reads p.range ++ constrained ps) v) (in_right (reads p.range) (constrained ps) v c))) g.1,
)

-- a variable of which nothing is said may be 0
module _ (M : ℕ) (ps : List Indexical) (x : ℕ) (free : has (constrained ps) x ≡ false) where
  nothing_else : Family
  nothing_else v = cond (v == x) (universe M) []

  nothing_rising : IsFamily M nothing_else
  unfolding nothing_else
  nothing_rising = record { rising = λ v. either (v == x) } where
    either : (b : Bool) → IsRising 0 M (cond b (universe M) [])
    either true = universe_rising M
    either false = tt

  empty_in : (qs : List Indexical) → InRanges M (λ v. []) qs
  empty_in [] = tt
  empty_in (q ∷ qs) = (record { each = λ n h. absurd (true≢false (sym h)) }, empty_in qs)

  free_domain : Domains M M [] ps x 0
  unfolding nothing_else
  free_domain = domains_from M ps nothing_else x 0 nothing_rising
      (in_ranges_agree M nothing_else (λ v. []) ps (λ v c. ap (λ b. cond b (universe M) []) (ne_eqb v x (λ e. true≢false (sym c ∙ ap (has (constrained ps)) e ∙ free)))) (empty_in ps))
      (ap (λ b. has (cond b (universe M) []) 0) (eq-eqb x x refl) ∙ in_universe M 0 (omega arith))

-- where the posted ranges are consistent every variable has a value
pub some_domain : (M : ℕ) (ps : List Indexical) → IsConsistent M M [] ps → (x : ℕ) → (n : ℕ) × Domains M M [] ps x n
some_domain M ps c x = elim (cases_Bool (has (constrained ps) x)) [
  | inl k ↦ c.some x k
  | inr k ↦ (0, free_domain M ps x k)
]

pub left_some : (M : ℕ) (ps : List Indexical) (D : Family) → IsConsistent M M [] ps → AreLeft M ps D → (x : ℕ) → (n : ℕ) × (has (D x) n ≡ true)
left_some M ps D c d x = let s = some_domain M ps c x in (s.0, (d.domains x s.0).1 s.1)

pub consistent_by : (M : ℕ) (ps : List Indexical) → ((x : ℕ) → (n : ℕ) × Domains M M [] ps x n) → IsConsistent M M [] ps
consistent_by M ps h = record { unifier = Var; general = identity; some = λ x k. h x }

pub inconsistent_by : (M : ℕ) (ps : List Indexical) (x : ℕ) → ((n : ℕ) → Domains M M [] ps x n → ⊥) → IsConsistent M M [] ps → ⊥
inconsistent_by M ps x none c = let s = some_domain M ps c x in none s.0 s.1
