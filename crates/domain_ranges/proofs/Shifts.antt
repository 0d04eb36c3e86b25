-- The loop of a list of intervals that are moved by an integer.
use Rattle.std.proofs.Common.{◌≡◌, ℕ, ◌+◌, ◌<◌, ◌≤◌, Bool, true, false, ◌||◌, ◌&&◌, leb, List, [], ◌∷◌, ◌++◌, filter, ap, sym, ◌∙◌, subst, inl, inr, ◌⊎◌, arith}
use Rattle.std.proofs.Common.{length, get_or, drop, drop_of_length-le, ℤ, pos, ◌+ℤ◌, ◌≤ℤ◌, ◌<ℤ◌, int_le, neg_ℤ, to_z, of_z, ◌^◌}
use mir.Syntax.{w128}
use Rattle.std.proofs.lemmas.Bool.{true≢false, or_cases, false_from_ne_true}
use Rattle.std.proofs.lemmas.Bool.Decides.{nat_tests}
use Rattle.std.proofs.lemmas.Int.{ints}
use Rattle.std.proofs.lemmas.List.{drop_more}
use Rattle.fd_language.specs.Family.{universe}
use Rattle.domain_ranges.specs.Spans.{Span, IsSpans, members, interval_count, shifted}
use Rattle.domain_ranges.proofs.PartialSets.{Made, IsNext, made_push, made_all, made_many}
use Rattle.domain_ranges.proofs.OpenInterval.{either_false, either_true, not_low}

-- whether n comes of the interval
abbrev pub comes : Span → ℤ → ℕ → Bool
comes x c n = int_le (pos x.0 +ℤ c) (pos n) && int_le (pos n) (pos x.1 +ℤ c)

pub record Shifting (M : ℕ) (c : ℤ) (ss out rest : List Span) : Type 0 where
  pub at : ℕ
  pub made : Made M (shifted ss c) out at
  pub low : ℕ
  pub spans : IsSpans low M rest
  pub start : (at ≡ 0) ⊎ (pos at ≤ℤ (pos low +ℤ c))
  pub same : (n : ℕ) → n ≤ M → at ≤ n → shifted ss c n ≡ shifted rest c n

pub comes_parts : (x : Span) (c : ℤ) (n : ℕ) → comes x c n ≡ true → ((pos x.0 +ℤ c) ≤ℤ pos n) × (pos n ≤ℤ (pos x.1 +ℤ c))
comes_parts x c n h = grind (arith, ints)

raise : (low x0 : ℕ) (c : ℤ) (n : ℕ) → low ≤ x0 → (pos x0 +ℤ c) ≤ℤ pos n → (pos low +ℤ c) ≤ℤ pos n
raise low x0 c n h g = omega (arith, ints)

shifted_low : (low high : ℕ) (c : ℤ) (ss : List Span) (n : ℕ) → IsSpans low high ss → shifted ss c n ≡ true → (pos low +ℤ c) ≤ℤ pos n
shifted_low low high c [] n r h = absurd (true≢false (sym h))
shifted_low low high c (s ∷ ss) n r h = elim (or_cases (comes s c n) (shifted ss c n) h) [
  | inl e ↦ raise low s.0 c n r.0 (comes_parts s c n e).0
  | inr e ↦ raise low (s.1 + 2) c n (omega (arith, r.0, r.1)) (shifted_low (s.1 + 2) high c ss n r.3 e)
]

-- s is what comes of x, cut to U
pub record IsMoved (M : ℕ) (c : ℤ) (x s : Span) : Type 0 where
  pub order : s.0 ≤ s.1
  pub high : s.1 ≤ M
  pub same : (n : ℕ) → n ≤ M → (leb s.0 n && leb n s.1) ≡ comes x c n

leb_both : (s : Span) (n : ℕ) → s.0 ≤ n → n ≤ s.1 → (leb s.0 n && leb n s.1) ≡ true
leb_both s n h g = grind (arith, nat_tests)

leb_high : (s : Span) (n : ℕ) → s.1 < n → (leb s.0 n && leb n s.1) ≡ false
leb_high s n h = grind (arith, nat_tests)

beyond : (s1 x1 : ℕ) (c : ℤ) (n : ℕ) → pos s1 ≤ℤ (pos x1 +ℤ c) → (pos (x1 + 2) +ℤ c) ≤ℤ pos n → s1 + 2 ≤ n
beyond s1 x1 c n h g = omega (arith, ints)

-- nothing of later intervals up to one behind the end
late : (M : ℕ) (c : ℤ) (x s : Span) (xs : List Span) → IsSpans (x.1 + 2) M xs → IsMoved M c x s → (n : ℕ) → n < s.1 + 2 → shifted xs c n ≡ false
late M c x s xs r m n h = false_from_ne_true (shifted xs c n) (λ e.
    let at_end = comes_parts x c s.1 (sym (m.same s.1 m.high) ∙ leb_both s s.1 m.order (omega arith)) in
    let far : s.1 + 2 ≤ n = beyond s.1 x.1 c n at_end.1 (shifted_low (x.1 + 2) M c xs n r e) in omega arith)

from_start : (at low x0 s0 : ℕ) (c : ℤ) → (at ≡ 0) ⊎ (pos at ≤ℤ (pos low +ℤ c)) → low ≤ x0 → (pos x0 +ℤ c) ≤ℤ pos s0 → at ≤ s0
from_start at low x0 s0 c (inl e) h g = omega arith
from_start at low x0 s0 c (inr e) h g = omega (arith, ints)

next_moved : (M : ℕ) (c : ℤ) (ss out xs : List Span) (x s : Span) (t : Shifting M c ss out (x ∷ xs)) → IsMoved M c x s → IsNext M (shifted ss c) t.at s
next_moved M c ss out xs x s t m =
    let r = t.spans in
    let low = comes_parts x c s.0 (sym (m.same s.0 (omega (arith, m.order, m.high))) ∙ leb_both s s.0 (omega arith) m.order) in
    let from : t.at ≤ s.0 = from_start t.at t.low x.0 s.0 c t.start r.0 low.0 in
    record {
      from = from;
      order = m.order;
      high = m.high;
      before = λ n k l. either_false (comes x c n) (shifted xs c n) (shifted ss c n) (t.same n (omega (arith, m.order, m.high)) k)
          (sym (m.same n (omega (arith, m.order, m.high))) ∙ not_low s n l) (late M c x s xs r.3 m n (omega (arith, m.order)));
      inside = λ n k l. either_true (comes x c n) (shifted xs c n) (shifted ss c n) (t.same n (omega (arith, m.high)) (omega arith)) (sym (m.same n (omega (arith, m.high))) ∙ leb_both s n k l);
      after = λ k. either_false (comes x c (s.1 + 1)) (shifted xs c (s.1 + 1)) (shifted ss c (s.1 + 1)) (t.same (s.1 + 1) k (omega (arith, m.order)))
          (sym (m.same (s.1 + 1) k) ∙ leb_high s (s.1 + 1) (omega arith)) (late M c x s xs r.3 m (s.1 + 1) (omega arith));
    }

moved_start : (s1 x1 : ℕ) (c : ℤ) → pos s1 ≤ℤ (pos x1 +ℤ c) → pos (s1 + 2) ≤ℤ (pos (x1 + 2) +ℤ c)
moved_start s1 x1 c h = omega (arith, ints)

second : (a b c : Bool) → c ≡ (a || b) → a ≡ false → c ≡ b
second a b c e h = grind arith

shifting_push : (M : ℕ) (c : ℤ) (ss out xs : List Span) (x s : Span) → Shifting M c ss out (x ∷ xs) → IsMoved M c x s → Shifting M c ss (out ++ s ∷ []) xs
shifting_push M c ss out xs x s t m =
    let next = next_moved M c ss out xs x s t m in
    let at_end = comes_parts x c s.1 (sym (m.same s.1 m.high) ∙ leb_both s s.1 m.order (omega arith)) in
    record {
      at = s.1 + 2;
      made = made_push M (shifted ss c) out t.at s t.made next;
      low = x.1 + 2;
      spans = t.spans.3;
      start = inr (moved_start s.1 x.1 c at_end.1);
      same = λ n h k. second (comes x c n) (shifted xs c n) (shifted ss c n) (t.same n h (omega (arith, next.from, next.order))) (sym (m.same n h) ∙ leb_high s n (omega arith));
    }

later_start : (at low high : ℕ) (c : ℤ) → low ≤ high → (at ≡ 0) ⊎ (pos at ≤ℤ (pos low +ℤ c)) → (at ≡ 0) ⊎ (pos at ≤ℤ (pos high +ℤ c))
later_start at low high c h (inl e) = inl e
later_start at low high c h (inr e) = inr (omega (arith, ints))

shifting_skip : (M : ℕ) (c : ℤ) (ss out xs : List Span) (x : Span) → Shifting M c ss out (x ∷ xs) → ((n : ℕ) → n ≤ M → comes x c n ≡ false) → Shifting M c ss out xs
shifting_skip M c ss out xs x t none = record {
  at = t.at;
  made = t.made;
  low = x.1 + 2;
  spans = t.spans.3;
  start = later_start t.at t.low (x.1 + 2) c (let r = t.spans in omega (arith, r.0, r.1)) t.start;
  same = λ n h k. second (comes x c n) (shifted xs c n) (shifted ss c n) (t.same n h k) (none n h);
}

-- at places
pub shift_some : (M : ℕ) (c : ℤ) (ss out : List Span) (i : ℕ) (s : Span) → Shifting M c ss out (drop i ss) → i < length ss → IsMoved M c (get_or ss i (0, 0)) s
    → Shifting M c ss (out ++ s ∷ []) (drop (i + 1) ss)
shift_some M c ss out i s t h m = shifting_push M c ss out (drop (i + 1) ss) (get_or ss i (0, 0)) s (subst (Shifting M c ss out) (drop_more ss i (0, 0) h) t) m

pub shift_none : (M : ℕ) (c : ℤ) (ss out : List Span) (i : ℕ) → Shifting M c ss out (drop i ss) → i < length ss
    → ((n : ℕ) → n ≤ M → comes (get_or ss i (0, 0)) c n ≡ false) → Shifting M c ss out (drop (i + 1) ss)
shift_none M c ss out i t h none = shifting_skip M c ss out (drop (i + 1) ss) (get_or ss i (0, 0)) (subst (Shifting M c ss out) (drop_more ss i (0, 0) h) t) none

pub shift_many : (M : ℕ) (c : ℤ) (ss out : List Span) (i : ℕ) (s : Span) → Shifting M c ss out (drop i ss) → i < length ss → IsMoved M c (get_or ss i (0, 0)) s
    → 2 ≤ length out → 2 < interval_count (filter (shifted ss c) (universe M))
shift_many M c ss out i s t h m l =
    let u = subst (Shifting M c ss out) (drop_more ss i (0, 0) h) t in
    let next = next_moved M c ss out (drop (i + 1) ss) (get_or ss i (0, 0)) s u m in
    made_many M (shifted ss c) out u.at s.0 u.made l next.from (omega (arith, next.order, next.high)) (next.inside s.0 (omega arith) next.order)

pub shift_done : (M : ℕ) (c : ℤ) (ss out : List Span) (i : ℕ) → Shifting M c ss out (drop i ss) → length ss ≤ i → members out ≡ filter (shifted ss c) (universe M)
shift_done M c ss out i t h = made_all M (shifted ss c) out t.at t.made (λ n g k. t.same n g k ∙ ap (λ l. shifted l c n) (drop_of_length-le ss h))

-- as the code computes the sums
pub code_sum : (x : ℕ) (c : ℤ) → x < 2 ^ 32 → neg_ℤ (pos (2 ^ 126)) <ℤ c → c <ℤ pos (2 ^ 126) → to_z w128 (of_z w128 (to_z w128 x +ℤ to_z w128 (of_z w128 c))) ≡ pos x +ℤ c
code_sum x c h g l = omega (arith, ints)

pub code_comes : (x : Span) (c u v : ℤ) (n : ℕ) → u ≡ pos x.0 +ℤ c → v ≡ pos x.1 +ℤ c → (int_le u (pos n) && int_le (pos n) v) ≡ comes x c n
code_comes x c u v n e f = ap (λ z. int_le z (pos n) && int_le (pos n) v) e ∙ ap (λ z. int_le (pos x.0 +ℤ c) (pos n) && int_le (pos n) z) f
