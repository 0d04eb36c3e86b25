-- The first interval that doesn't end below a number.
use Rattle.std.proofs.Common.{◌≡◌, ℕ, zero, suc, ◌+◌, ◌<◌, ◌≤◌, Bool, true, false, leb, ltb, List, [], ◌∷◌, refl, ap, sym, ◌∙◌, subst, arith, length, get_or}
use Rattle.std.proofs.Common.{drop, drop_of_length-le, max, le-leb}
use Rattle.std.proofs.lemmas.Bool.Decides.{nat_tests}
use Rattle.std.proofs.lemmas.List.{drop_more}
use Rattle.domain_ranges.specs.Spans.{Span, within, IsSpans}
use Rattle.domain_ranges.proofs.Spans.{not_within, past_first, within_low, spans_at}

end_low : (low high j : ℕ) (ss : List Span) (d : Span) → IsSpans low high ss → j < length ss → low ≤ (get_or ss j d).1
end_low low high j [] d r h = absurd (omega arith)
end_low low high zero (s ∷ ss) d r h = omega (arith, r.0, r.1)
end_low low high (suc j) (s ∷ ss) d r h = omega (arith, r.0, r.1, end_low (s.1 + 2) high j ss d r.3 (omega arith))

-- the ends rise
pub ends_rise : (low high i j : ℕ) (ss : List Span) (d : Span) → IsSpans low high ss → i ≤ j → j < length ss → (get_or ss i d).1 ≤ (get_or ss j d).1
ends_rise low high i j [] d r h g = absurd (omega arith)
ends_rise low high zero zero (s ∷ ss) d r h g = omega arith
ends_rise low high zero (suc j) (s ∷ ss) d r h g = omega (arith, end_low (s.1 + 2) high j ss d r.3 (omega arith))
ends_rise low high (suc i) zero (s ∷ ss) d r h g = absurd (omega arith)
ends_rise low high (suc i) (suc j) (s ∷ ss) d r h g = ends_rise (s.1 + 2) high i j ss d r.3 (omega arith) (omega arith)

-- the intervals up to a place end below n
passed : (i n : ℕ) (ss : List Span) → ((k : ℕ) (d : Span) → k < i → (get_or ss k d).1 < n) → i ≤ length ss → within ss n ≡ within (drop i ss) n
passed zero n ss h g = refl
passed (suc i) n [] h g = refl
passed (suc i) n (s ∷ ss) h g = past_first s ss n (h 0 s (omega arith)) ∙ passed i n ss (λ k d l. h (suc k) d (omega arith)) (omega arith)

at_first : (low high n : ℕ) (s : Span) (ss : List Span) → IsSpans low high (s ∷ ss) → n ≤ s.1 → within (s ∷ ss) n ≡ leb s.0 n
at_first low high n s ss r h = let later = not_within (s.1 + 2) high n ss (within ss n) r.3 (omega arith) refl in grind (arith, nat_tests)

pub drop_spans : (low high i : ℕ) (ss : List Span) → IsSpans low high ss → (from : ℕ) × IsSpans from high (drop i ss)
drop_spans low high zero ss r = (low, r)
drop_spans low high (suc i) [] r = (low, r)
drop_spans low high (suc i) (s ∷ ss) r = drop_spans (s.1 + 2) high i ss r.3

-- whether a number is in the intervals, by that place
pub there : (high i n : ℕ) (ss : List Span) → IsSpans 0 high ss → ((k : ℕ) (d : Span) → k < i → (get_or ss k d).1 < n) → i < length ss
    → n ≤ (get_or ss i (0, 0)).1 → within ss n ≡ leb (get_or ss i (0, 0)).0 n
there high i n ss r h g l =
    let rest = drop_spans 0 high i ss r in
    passed i n ss h (omega arith) ∙ ap (λ t. within t n) (drop_more ss i (0, 0) g)
    ∙ at_first rest.0 high n (get_or ss i (0, 0)) (drop (i + 1) ss) (subst (IsSpans rest.0 high) (drop_more ss i (0, 0) g) rest.1) l

pub not_there : (i n : ℕ) (ss : List Span) → ((k : ℕ) (d : Span) → k < i → (get_or ss k d).1 < n) → i ≤ length ss → length ss ≤ i → within ss n ≡ false
not_there i n ss h g l = passed i n ss h g ∙ ap (λ t. within t n) (drop_of_length-le ss l)

pub no_less : (a b : ℕ) (c : Bool) → b ≤ a → c ≡ false → ltb a b ≡ c
no_less a b c h e = grind (arith, nat_tests)

-- the least number from n on
first_low : (low high n : ℕ) (s : Span) (ss : List Span) (k : ℕ) → IsSpans low high (s ∷ ss) → within (s ∷ ss) k ≡ true → s.0 ≤ k
first_low low high n s ss k r h = within_low s.0 high (s ∷ ss) k (omega arith, r.1, r.2, r.3) h

pub next_least : (high i n k : ℕ) (ss : List Span) → IsSpans 0 high ss → ((j : ℕ) (d : Span) → j < i → (get_or ss j d).1 < n) → i < length ss → n ≤ k
    → within ss k ≡ true → max (get_or ss i (0, 0)).0 n ≤ k
next_least high i n k ss r h g l t =
    let rest = drop_spans 0 high i ss r in
    let low : (get_or ss i (0, 0)).0 ≤ k = first_low rest.0 high n (get_or ss i (0, 0)) (drop (i + 1) ss) k (subst (IsSpans rest.0 high) (drop_more ss i (0, 0) g) rest.1)
    (sym (ap (λ t. within t k) (drop_more ss i (0, 0) g)) ∙ sym (passed i k ss (λ j d m. (let e = h j d m in omega arith)) (omega arith)) ∙ t) in
    omega arith

pub next_there : (high i n : ℕ) (ss : List Span) → IsSpans 0 high ss → ((j : ℕ) (d : Span) → j < i → (get_or ss j d).1 < n) → i < length ss
    → n ≤ (get_or ss i (0, 0)).1 → within ss (max (get_or ss i (0, 0)).0 n) ≡ true
next_there high i n ss r h g l =
    let at = spans_at 0 high i ss (0, 0) r g in
    there high i (max (get_or ss i (0, 0)).0 n) ss r (λ j d m. (let e = h j d m in omega arith)) g (omega (arith, at.0)) ∙ le-leb (get_or ss i (0, 0)).0 (max (get_or ss i (0, 0)).0 n) (omega arith)

pub none_from : (i n k : ℕ) (ss : List Span) → ((j : ℕ) (d : Span) → j < i → (get_or ss j d).1 < n) → i ≤ length ss → length ss ≤ i → n ≤ k → within ss k ≡ false
none_from i n k ss h g l m = not_there i k ss (λ j d q. (let e = h j d q in omega arith)) g l
