-- Lemmas on lists of intervals.
use Rattle.std.proofs.Common.{◌≡◌, ℕ, zero, suc, ◌+◌, ◌-◌, ◌<◌, ◌≤◌, Bool, true, false, ◌||◌, ◌&&◌, leb, List, [], ◌∷◌, ◌++◌, refl, ap, sym, ◌∙◌, subst, inl}
use Rattle.std.proofs.Common.{inr, ◌⊎◌, arith, leb-true, le-leb, length, get_or, take, add-one}
use Rattle.std.proofs.lemmas.Bool.{true≢false}
use Rattle.std.proofs.lemmas.Bool.Decides.{nat_tests}
use Rattle.domain_ranges.specs.Spans.{Span, within, IsSpans}

-- all of them end before k, with a gap
abbrev pub EndBefore : List Span → ℕ → Type 0
EndBefore [] k = Unit {0}
EndBefore (s ∷ ss) k = (s.1 + 2 ≤ k) × EndBefore ss k

-- how many numbers they have
abbrev pub count : List Span → ℕ
count [] = 0
count (s ∷ ss) = (suc s.1 - s.0) + count ss

-- n is the least, the greatest number
pub record IsLeast (ss : List Span) (n : ℕ) : Type 0 where
  pub there : within ss n ≡ true
  pub least : (m : ℕ) → within ss m ≡ true → n ≤ m

pub record IsGreatest (ss : List Span) (n : ℕ) : Type 0 where
  pub there : within ss n ≡ true
  pub greatest : (m : ℕ) → within ss m ≡ true → m ≤ n

pub head_or_later : (s : Span) (ss : List Span) (n : ℕ) → within (s ∷ ss) n ≡ true → ((s.0 ≤ n) × (n ≤ s.1)) ⊎ (within ss n ≡ true)
head_or_later s ss n h = grind (arith, leb-true)

pub in_head : (s : Span) (ss : List Span) (n : ℕ) → s.0 ≤ n → n ≤ s.1 → within (s ∷ ss) n ≡ true
in_head s ss n h g = grind (arith, le-leb)

pub in_later : (s : Span) (ss : List Span) (n : ℕ) → within ss n ≡ true → within (s ∷ ss) n ≡ true
in_later s ss n h = grind arith

pub within_low : (low high : ℕ) (ss : List Span) (n : ℕ) → IsSpans low high ss → within ss n ≡ true → low ≤ n
within_low low high [] n r h = absurd (true≢false (sym h))
within_low low high (s ∷ ss) n r h = elim (head_or_later s ss n h) [ inl a ↦ omega (arith, r.0, a.0) | inr a ↦ omega (arith, r.0, r.1, within_low (s.1 + 2) high ss n r.3 a) ]

pub within_high : (low high : ℕ) (ss : List Span) (n : ℕ) → IsSpans low high ss → within ss n ≡ true → n ≤ high
within_high low high [] n r h = absurd (true≢false (sym h))
within_high low high (s ∷ ss) n r h = elim (head_or_later s ss n h) [ inl a ↦ omega (arith, r.2, a.1) | inr a ↦ within_high (s.1 + 2) high ss n r.3 a ]

least_head : (low high : ℕ) (ss : List Span) → IsSpans low high ss → 1 ≤ length ss → IsLeast ss (get_or ss 0 (0, 0)).0
least_head low high [] r h = absurd (omega arith)
least_head low high (s ∷ ss) r h = record {
  there = in_head s ss s.0 (omega arith) r.1;
  least = λ m g. elim (head_or_later s ss m g) [ inl a ↦ a.0 | inr a ↦ omega (arith, r.1, within_low (s.1 + 2) high ss m r.3 a) ];
}

greatest_last : (low high : ℕ) (ss : List Span) → IsSpans low high ss → 1 ≤ length ss → IsGreatest ss (get_or ss (length ss - 1) (0, 0)).1
greatest_last low high [] r h = absurd (omega arith)
greatest_last low high (s ∷ []) r h = record {
  there = in_head s [] s.1 r.1 (omega arith);
  greatest = λ m g. elim (head_or_later s [] m g) [ inl a ↦ a.1 | inr a ↦ absurd (true≢false (sym a)) ];
}
greatest_last low high (s ∷ t ∷ ts) r h =
    let later : IsGreatest (t ∷ ts) (get_or (t ∷ ts) (length (t ∷ ts) - 1) (0, 0)).1 = greatest_last (s.1 + 2) high (t ∷ ts) r.3 (omega arith) in
    let place : length (s ∷ t ∷ ts) - 1 ≡ suc (length (t ∷ ts) - 1) = omega arith in
    rw place (record {
      there = in_later s (t ∷ ts) _ later.there;
      greatest = λ m g. elim (head_or_later s (t ∷ ts) m g) [ inl a ↦ omega (arith, a.1, within_low (s.1 + 2) high (t ∷ ts) _ r.3 later.there) | inr a ↦ later.greatest m a ];
    })

pub least_first : (high : ℕ) (ss ts : List Span) → IsSpans 0 high ss → ts ≡ ss → 1 ≤ length ts → IsLeast ss (get_or ts 0 (0, 0)).0
least_first high ss ts r e h = rw e (least_head 0 high ss r (subst (λ l. 1 ≤ length l) e h))

pub greatest_end : (high : ℕ) (ss ts : List Span) → IsSpans 0 high ss → ts ≡ ss → 1 ≤ length ts → IsGreatest ss (get_or ts (length ts - 1) (0, 0)).1
greatest_end high ss ts r e h = rw e (greatest_last 0 high ss r (subst (λ l. 1 ≤ length l) e h))

-- past the last number there are no more intervals
first_gap : (n high : ℕ) (ss : List Span) → IsSpans (n + 2) high ss → (ss ≡ []) ⊎ (n + 2 ≤ suc high)
first_gap n high [] r = inl refl
first_gap n high (s ∷ ss) r = inr (omega (arith, r.0, r.1, r.2))

no_more : (s : Span) (ss : List Span) (low high : ℕ) → low ≤ s.0 → s.0 ≤ s.1 → s.1 ≤ high → ss ≡ [] → count (s ∷ ss) + low ≤ suc high
no_more s ss low high a b c e = let none : count ss ≡ 0 = ap count e in omega arith

count-take : (i : ℕ) (ss : List Span) → count (take i ss) ≤ count ss
count-take zero ss = omega arith
count-take (suc i) [] = omega arith
count-take (suc i) (s ∷ ss) = omega (arith, count-take i ss)

count-more : (i : ℕ) (ss : List Span) (d : Span) → i < length ss → count (take (i + 1) ss) ≡ count (take i ss) + (suc (get_or ss i d).1 - (get_or ss i d).0)
count-more i [] d h = absurd (omega arith)
count-more zero (s ∷ ss) d h = omega arith
count-more (suc i) (s ∷ ss) d h = let later = count-more i ss d (omega arith) in
    rw add-one (let l : count (take (suc i) ss) ≡ count (take i ss) + (suc (get_or ss i d).1 - (get_or ss i d).0) = rw add-one at later in omega arith)

pub spans_at : (low high i : ℕ) (ss : List Span) (d : Span) → IsSpans low high ss → i < length ss → ((get_or ss i d).0 ≤ (get_or ss i d).1) × ((get_or ss i d).1 ≤ high)
spans_at low high i [] d r h = absurd (omega arith)
spans_at low high zero (s ∷ ss) d r h = (r.1, r.2)
spans_at low high (suc i) (s ∷ ss) d r h = spans_at (s.1 + 2) high i ss d r.3 (omega arith)

count_bound : (low high : ℕ) (ss : List Span) → IsSpans low high ss → low ≤ suc high → count ss + low ≤ suc high
count_bound low high [] r h = omega arith
count_bound low high (s ∷ ss) r h = elim (first_gap s.1 high ss r.3) [ inl e ↦ no_more s ss low high r.0 r.1 r.2 e | inr g ↦ omega (arith, r.0, r.1, r.2, count_bound (s.1 + 2) high ss r.3 g) ]

-- a choice of three, by the last two
pub or_step : (p a b c : Bool) → c ≡ (a || b) → (p || c) ≡ ((p || a) || b)
or_step p a b c e = grind arith

pub within_append : (ss ts : List Span) (n : ℕ) → within (ss ++ ts) n ≡ (within ss n || within ts n)
within_append [] ts n = refl
within_append (s ∷ ss) ts n = or_step (leb s.0 n && leb n s.1) (within ss n) (within ts n) (within (ss ++ ts) n) (within_append ss ts n)

pub spans_push : (low high : ℕ) (ss : List Span) (s : Span) → IsSpans low high ss → low ≤ s.0 → s.0 ≤ s.1 → s.1 ≤ high → EndBefore ss s.0 → IsSpans low high (ss ++ s ∷ [])
spans_push low high [] s r a b c e = (a, b, c, tt)
spans_push low high (t ∷ ts) s r a b c e = (r.0, r.1, r.2, spans_push (t.1 + 2) high ts s r.3 e.0 b c e.1)

pub ends_push : (ss : List Span) (s : Span) (k : ℕ) → EndBefore ss k → s.1 + 2 ≤ k → EndBefore (ss ++ s ∷ []) k
ends_push [] s k h g = (g, tt)
ends_push (t ∷ ts) s k h g = (h.0, ends_push ts s k h.1 g)

pub ends_more : (ss : List Span) (k m : ℕ) → EndBefore ss k → k ≤ m → EndBefore ss m
ends_more [] k m h g = tt
ends_more (t ∷ ts) k m h g = (omega (arith, h.0), ends_more ts k m h.1 g)

-- no number from k on is in them
pub ends_none : (ss : List Span) (k n : ℕ) → EndBefore ss k → k ≤ n → within ss n ≡ false
ends_none [] k n h g = refl
ends_none (t ∷ ts) k n h g = let later = ends_none ts k n h.1 g in let first : t.1 < n = omega (arith, h.0) in grind (arith, nat_tests)

-- one turn of a count
pub record Counted (M : ℕ) (ts : List Span) (i size : ℕ) : Type 0 where
  pub order : (get_or ts i (0, 0)).0 ≤ (get_or ts i (0, 0)).1
  pub high : (get_or ts i (0, 0)).1 ≤ M
  pub more : size + ((get_or ts i (0, 0)).1 + 1 - (get_or ts i (0, 0)).0) ≡ count (take (i + 1) ts)
  pub bound : count (take (i + 1) ts) ≤ suc M

pub counted : (M : ℕ) (ss ts : List Span) (i size : ℕ) → IsSpans 0 M ss → ts ≡ ss → i < length ts → size ≡ count (take i ts) → Counted M ts i size
counted M ss ts i size r e h g =
    let q : IsSpans 0 M ts = subst (IsSpans 0 M) (sym e) r in
    let at = spans_at 0 M i ts (0, 0) q h in
    record {
      order = at.0;
      high = at.1;
      more = let m = count-more i ts (0, 0) h in omega arith;
      bound = let b = count-take (i + 1) ts in let c = count_bound 0 M ts q (omega arith) in omega arith;
    }

-- past the first interval, and right behind it
pub past_first : (s : Span) (ss : List Span) (n : ℕ) → s.1 < n → within (s ∷ ss) n ≡ within ss n
past_first s ss n h = grind (arith, nat_tests)

pub not_within : (low high n : ℕ) (ss : List Span) (b : Bool) → IsSpans low high ss → n < low → within ss n ≡ b → b ≡ false
not_within low high n ss false r h e = refl
not_within low high n ss true r h e = absurd (omega (arith, within_low low high ss n r e))

pub behind_first : (low high : ℕ) (s : Span) (ss : List Span) → IsSpans low high (s ∷ ss) → within (s ∷ ss) (suc s.1) ≡ false
behind_first low high s ss r = past_first s ss (suc s.1) (omega arith) ∙ not_within (s.1 + 2) high (suc s.1) ss (within ss (suc s.1)) r.3 (omega arith) refl
