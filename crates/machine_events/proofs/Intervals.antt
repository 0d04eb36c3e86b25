-- The intervals of a set are the spans that it is made of.
use Rattle.std.proofs.Common.{◌≡◌, ℕ, zero, suc, ◌+◌, ◌-◌, ◌≤◌, Bool, true, false, ◌==◌, List, [], ◌∷◌, ◌++◌, refl, ap, sym, ◌∙◌, subst, arith, eq-eqb, ne_eqb}
use Rattle.std.specs.Prelude.{map}
use Rattle.domain_ranges.proofs.Lemmas.{members_rising}
use Rattle.fd_language.specs.Family.{IsRising, count_up}
use Rattle.fd_model.specs.Lines.{Interval, intervals, with_first}
use Rattle.domain_ranges.specs.Spans.{Span, IsSpans, members}

-- The intervals of a set: a run of numbers with a gap behind it is one of them.
alone_case : (x y : ℕ) (i : Interval) (is : List Interval) → x + 2 ≤ y → (all : List Interval) (t : Bool) → (i.low == suc y) ≡ t → all ≡ with_first y (i ∷ is)
    → with_first x all ≡ record { low = x; high = x } ∷ all
alone_case x y i is l all true t e = rw e (rw (t, ne_eqb y (suc x) (λ f. omega arith)) refl)
alone_case x y i is l all false t e = rw e (rw (t, ne_eqb y (suc x) (λ f. omega arith)) refl)

alone_low : (x y : ℕ) (is : List Interval) → x + 2 ≤ y → (all : List Interval) → all ≡ with_first y is → with_first x all ≡ record { low = x; high = x } ∷ all
alone_low x y [] l all e = rw e (rw (ne_eqb y (suc x) (λ f. omega arith)) refl)
alone_low x y (i ∷ is) l all e = alone_case x y i is l all (i.low == suc y) refl e

first_alone : (x high : ℕ) (xs : List ℕ) (is : List Interval) → IsRising (x + 2) high xs → is ≡ intervals xs → with_first x is ≡ record { low = x; high = x } ∷ is
first_alone x high [] is r e = rw e refl
first_alone x high (y ∷ ys) is r e = alone_low x y (intervals ys) r.0 is e

run_step : (x n : ℕ) (is : List Interval) → with_first x (record { low = suc x; high = suc x + n } ∷ is) ≡ record { low = x; high = x + suc n } ∷ is
run_step x n is = rw (eq-eqb (suc x) (suc x) refl) (let e : suc x + n ≡ x + suc n = omega arith in ap (λ (h : ℕ). record { low = x; high = h } ∷ is) e)

-- n + 1 numbers from low on, and then numbers past a gap
pub intervals_run : (low n high : ℕ) (rest : List ℕ) → IsRising (low + n + 2) high rest → intervals (count_up low (suc n) ++ rest) ≡ record { low = low; high = low + n } ∷ intervals rest
intervals_run low zero high rest r =
    let none : low + 0 ≡ low = omega arith in
    first_alone low high rest (intervals rest) (subst (λ k. IsRising (k + 2) high rest) none r) refl ∙ ap (λ (h : ℕ). record { low = low; high = h } ∷ intervals rest) (sym none)
intervals_run low (suc n) high rest r =
    let next : low + suc n + 2 ≡ suc low + n + 2 = omega arith in
    ap (with_first low) (intervals_run (suc low) n high rest (subst (λ k. IsRising k high rest) next r)) ∙ run_step low n (intervals rest)

pub span_intervals : (low high : ℕ) (ss : List Span) → IsSpans low high ss → intervals (members ss) ≡ map (λ s. record { low = s.0; high = s.1 }) ss
unfolding members
span_intervals low high [] h = refl
span_intervals low high (s ∷ ss) h =
    let one : suc s.1 - s.0 ≡ suc (s.1 - s.0) = omega arith in
    let last : s.0 + (s.1 - s.0) ≡ s.1 = omega arith in
    ap (λ n. intervals (count_up s.0 n ++ members ss)) one
    ∙ intervals_run s.0 (s.1 - s.0) high (members ss) (subst (λ k. IsRising (k + 2) high (members ss)) (sym last) (members_rising (s.1 + 2) high ss h.3))
    ∙ ap (λ (k : ℕ). record { low = s.0; high = k } ∷ intervals (members ss)) last
    ∙ ap (λ l. record { low = s.0; high = s.1 } ∷ l) (span_intervals (s.1 + 2) high ss h.3)
