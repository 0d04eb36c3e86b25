-- A list of intervals of which one loses a number.
use Rattle.std.proofs.Common.{◌≡◌, ℕ, zero, suc, ◌+◌, ◌-◌, ◌<◌, ◌≤◌, Bool, true, false, ◌&&◌, ◌||◌, ◌==◌, not, leb, ltb, List, [], ◌∷◌, ◌++◌, refl, ap, sym}
use Rattle.std.proofs.Common.{◌∙◌, inl, inr, subst, add-one, leb-true, arith, length, get_or, set, take, drop}
use Rattle.std.proofs.lemmas.Bool.{cases_Bool, true≢false, lt-ltb, le-ltb, ltb-true, ltb-false, cases_lt}
use Rattle.std.proofs.lemmas.Bool.Decides.{nat_tests}
use Rattle.domain_ranges.specs.Spans.{Span, within, IsSpans, gap, parted}
use Rattle.domain_ranges.proofs.Spans.{not_within, within_append}
use Rattle.domain_ranges.proofs.Places.{there, not_there}

spans_from : (low from high : ℕ) (ss : List Span) → low ≤ from → IsSpans from high ss → IsSpans low high ss
spans_from low from high [] h r = tt
spans_from low from high (s ∷ ss) h r = (omega (arith, r.0), r.1, r.2, r.3)

-- the interval at a place begins no earlier than the first one may
start_low : (low high k : ℕ) (ss : List Span) → IsSpans low high ss → k < length ss → low ≤ (get_or ss k (0, 0)).0
start_low low high k [] r h = absurd (omega arith)
start_low low high zero (s ∷ ss) r h = r.0
start_low low high (suc k) (s ∷ ss) r h = omega (arith, r.0, r.1, start_low (s.1 + 2) high k ss r.3 (omega arith))

-- what stands on both sides of the number
module _ (low high n : ℕ) (s : Span) (ss : List Span) (r : IsSpans low high (s ∷ ss)) (from : s.0 ≤ n) (to : n ≤ s.1) where
  behind : IsSpans (n + 1) high (gap (n + 1) (s.1 + 1) ++ ss)
  behind = elim (cases_Bool (ltb (n + 1) (s.1 + 1))) [
    | inl t ↦
        let l : n + 1 < s.1 + 1 = ltb-true (n + 1) (s.1 + 1) t in
        let e : s.1 + 1 - 1 ≡ s.1 = omega arith in
        rw (t, e) (omega arith, omega arith, r.2, r.3)
    | inr t ↦ rw t (spans_from (n + 1) (s.1 + 2) high ss (omega arith) r.3)
  ]

  both_sides : IsSpans low high (gap s.0 n ++ (gap (n + 1) (s.1 + 1) ++ ss))
  both_sides = elim (cases_Bool (ltb s.0 n)) [
    | inl t ↦
        let l : s.0 < n = ltb-true s.0 n t in
        let e : n - 1 + 2 ≡ n + 1 = omega arith in
        rw t (r.0, omega arith, omega (arith, r.2), rw e behind)
    | inr t ↦ rw t (spans_from low (n + 1) high (gap (n + 1) (s.1 + 1) ++ ss) (omega (arith, r.0, from)) behind)
  ]

  not_later : (j : ℕ) → (j == n) ≡ true → within ss j ≡ false
  not_later j e = not_within (s.1 + 2) high j ss (within ss j) r.3 (let f : j ≡ n = grind (arith, nat_tests) in omega arith) refl

  gaps_have : (j : ℕ) (w : Bool) → ((j == n) ≡ true → w ≡ false) → (within (gap s.0 n) j || (within (gap (n + 1) (s.1 + 1)) j || w)) ≡ (((leb s.0 j && leb j s.1) || w) && not (j == n))
  gaps_have j w h = elim (cases_Bool (ltb s.0 n)) [
    | inl t ↦ elim (cases_Bool (ltb (n + 1) (s.1 + 1))) [
      | inl u ↦ rw (t, u) (two j w h (ltb-true s.0 n t) (ltb-true (n + 1) (s.1 + 1) u))
      | inr u ↦ rw (t, u) (first j w h (ltb-true s.0 n t) (ltb-false (n + 1) (s.1 + 1) u))
    ]
    | inr t ↦ elim (cases_Bool (ltb (n + 1) (s.1 + 1))) [
      | inl u ↦ rw (t, u) (second j w h (ltb-false s.0 n t) (ltb-true (n + 1) (s.1 + 1) u))
      | inr u ↦ rw (t, u) (none j w h (ltb-false s.0 n t) (ltb-false (n + 1) (s.1 + 1) u))
    ]
  ] where
    two : (j : ℕ) (w : Bool) → ((j == n) ≡ true → w ≡ false) → s.0 < n → n + 1 < s.1 + 1
        → (within ((s.0, n - 1) ∷ []) j || (within ((n + 1, s.1 + 1 - 1) ∷ []) j || w)) ≡ (((leb s.0 j && leb j s.1) || w) && not (j == n))
    two j w h a b = grind (arith, nat_tests, h)

    first : (j : ℕ) (w : Bool) → ((j == n) ≡ true → w ≡ false) → s.0 < n → s.1 + 1 ≤ n + 1 → (within ((s.0, n - 1) ∷ []) j || (false || w)) ≡ (((leb s.0 j && leb j s.1) || w) && not (j == n))
    first j w h a b = grind (arith, nat_tests, h)

    second : (j : ℕ) (w : Bool) → ((j == n) ≡ true → w ≡ false) → n ≤ s.0 → n + 1 < s.1 + 1 → (false || (within ((n + 1, s.1 + 1 - 1) ∷ []) j || w)) ≡ (((leb s.0 j && leb j s.1) || w) && not (j == n))
    second j w h a b = grind (arith, nat_tests, h)

    none : (j : ℕ) (w : Bool) → ((j == n) ≡ true → w ≡ false) → n ≤ s.0 → s.1 + 1 ≤ n + 1 → (false || (false || w)) ≡ (((leb s.0 j && leb j s.1) || w) && not (j == n))
    none j w h a b = grind (arith, nat_tests, h)

-- a parted list is one of intervals, too
pub parted_spans : (low high k n : ℕ) (ss : List Span) → IsSpans low high ss → k < length ss → (get_or ss k (0, 0)).0 ≤ n → n ≤ (get_or ss k (0, 0)).1 → IsSpans low high (parted ss k n)
parted_spans low high k n [] r h a b = tt
parted_spans low high zero n (s ∷ ss) r h a b = both_sides low high n s ss r a b
parted_spans low high (suc k) n (s ∷ ss) r h a b = (r.0, r.1, r.2, parted_spans (s.1 + 2) high k n ss r.3 (omega arith) a b)

earlier : (p w q : Bool) → (p ≡ true → q ≡ true) → (p || (w && q)) ≡ ((p || w) && q)
earlier p w q h = grind (arith, h)

-- it has all numbers but one
pub parted_within : (low high k n : ℕ) (ss : List Span) → IsSpans low high ss → k < length ss → (get_or ss k (0, 0)).0 ≤ n → n ≤ (get_or ss k (0, 0)).1
    → (j : ℕ) → within (parted ss k n) j ≡ (within ss j && not (j == n))
parted_within low high k n [] r h a b j = refl
parted_within low high zero n (s ∷ ss) r h a b j =
    within_append (gap s.0 n) (gap (n + 1) (s.1 + 1) ++ ss) j
    ∙ ap (λ w. within (gap s.0 n) j || w) (within_append (gap (n + 1) (s.1 + 1)) ss j)
    ∙ gaps_have low high n s ss r a b j (within ss j) (not_later low high n s ss r a b j)
parted_within low high (suc k) n (s ∷ ss) r h a b j =
    let low_n = start_low (s.1 + 2) high k ss r.3 (omega arith) in
    let apart : s.1 < n = omega (arith, low_n, a) in
    ap (λ w. (leb s.0 j && leb j s.1) || w) (parted_within (s.1 + 2) high k n ss r.3 (omega arith) a b j)
    ∙ earlier (leb s.0 j && leb j s.1) (within ss j) (not (j == n)) (λ e. grind (arith, nat_tests))

-- how the list is written
module _ (n : ℕ) where
  pub gone : (k : ℕ) (ss : List Span) → k < length ss → (get_or ss k (0, 0)).0 ≡ n → (get_or ss k (0, 0)).1 ≡ n → take k ss ++ drop (suc k) ss ≡ parted ss k n
  gone k [] h a b = absurd (omega arith)
  gone zero (s ∷ ss) h a b =
      let t = le-ltb s.0 n (omega arith) in
      let u = le-ltb (n + 1) (s.1 + 1) (omega arith) in
      rw (t, u) refl
  gone (suc k) (s ∷ ss) h a b = ap (λ l. s ∷ l) (gone k ss (omega arith) a b)

  pub first_gone : (k : ℕ) (ss : List Span) → k < length ss → (get_or ss k (0, 0)).0 ≡ n → n < (get_or ss k (0, 0)).1 → set ss k (n + 1, (get_or ss k (0, 0)).1) ≡ parted ss k n
  first_gone k [] h a b = absurd (omega arith)
  first_gone zero (s ∷ ss) h a b =
      let t = le-ltb s.0 n (omega arith) in
      let u = lt-ltb (n + 1) (s.1 + 1) (omega arith) in
      let e : s.1 + 1 - 1 ≡ s.1 = omega arith in
      rw (t, u, e) refl
  first_gone (suc k) (s ∷ ss) h a b = ap (λ l. s ∷ l) (first_gone k ss (omega arith) a b)

  pub last_gone : (k : ℕ) (ss : List Span) → k < length ss → (get_or ss k (0, 0)).0 < n → (get_or ss k (0, 0)).1 ≡ n → set ss k ((get_or ss k (0, 0)).0, n - 1) ≡ parted ss k n
  last_gone k [] h a b = absurd (omega arith)
  last_gone zero (s ∷ ss) h a b =
      let t = lt-ltb s.0 n (omega arith) in
      let u = le-ltb (n + 1) (s.1 + 1) (omega arith) in
      rw (t, u) refl
  last_gone (suc k) (s ∷ ss) h a b = ap (λ l. s ∷ l) (last_gone k ss (omega arith) a b)

  inner_gone : (k : ℕ) (ss : List Span) → k < length ss → (get_or ss k (0, 0)).0 < n → n < (get_or ss k (0, 0)).1
      → set (take (suc k) ss ++ (n + 1, (get_or ss k (0, 0)).1) ∷ drop (suc k) ss) k ((get_or ss k (0, 0)).0, n - 1) ≡ parted ss k n
  inner_gone k [] h a b = absurd (omega arith)
  inner_gone zero (s ∷ ss) h a b =
      let t = lt-ltb s.0 n (omega arith) in
      let u = lt-ltb (n + 1) (s.1 + 1) (omega arith) in
      let e : s.1 + 1 - 1 ≡ s.1 = omega arith in
      rw (t, u, e) refl
  inner_gone (suc k) (s ∷ ss) h a b = ap (λ l. s ∷ l) (inner_gone k ss (omega arith) a b)

  pub two_left : (k : ℕ) (ss : List Span) (low high : ℕ) → k < length ss → low ≡ (get_or ss k (0, 0)).0 → high ≡ (get_or ss k (0, 0)).1 → low < n → n < high
      → set (take (k + 1) ss ++ (n + 1, high) ∷ drop (k + 1) ss) k (low, n - 1) ≡ parted ss k n
  two_left k ss low high h e f a b = rw (e, f, add-one) (inner_gone k ss h (omega arith) (omega arith))

-- a number that is no end leaves one interval more
pub inner_length : (k n : ℕ) (ss : List Span) → k < length ss → (get_or ss k (0, 0)).0 < n → n < (get_or ss k (0, 0)).1 → length (parted ss k n) ≡ suc (length ss)
inner_length k n [] h a b = absurd (omega arith)
inner_length zero n (s ∷ ss) h a b =
    let t = lt-ltb s.0 n (omega arith) in
    let u = lt-ltb (n + 1) (s.1 + 1) (omega arith) in
    rw (t, u) refl
inner_length (suc k) n (s ∷ ss) h a b = ap suc (inner_length k n ss (omega arith) a b)

-- the place of the interval that has the number
pub place_of : (high i n : ℕ) (ss qs : List Span) → qs ≡ ss → IsSpans 0 high ss → ((k : ℕ) (d : Span) → k < i → (get_or qs k d).1 < n)
    → ((k : ℕ) (d : Span) → i ≤ k → k < length qs → n ≤ (get_or qs k d).1) → i ≤ length qs → within ss n ≡ true
    → (i < length ss) × ((get_or ss i (0, 0)).0 ≤ n) × (n ≤ (get_or ss i (0, 0)).1)
place_of high i n ss qs e r before after l m =
    subst (λ (q : List Span). ((k : ℕ) (d : Span) → k < i → (get_or q k d).1 < n) → ((k : ℕ) (d : Span) → i ≤ k → k < length q → n ≤ (get_or q k d).1)
    → i ≤ length q → (i < length ss) × ((get_or ss i (0, 0)).0 ≤ n) × (n ≤ (get_or ss i (0, 0)).1)) (sym e) found before after l
  where
    found : ((k : ℕ) (d : Span) → k < i → (get_or ss k d).1 < n) → ((k : ℕ) (d : Span) → i ≤ k → k < length ss → n ≤ (get_or ss k d).1) → i ≤ length ss
        → (i < length ss) × ((get_or ss i (0, 0)).0 ≤ n) × (n ≤ (get_or ss i (0, 0)).1)
    found f g h = elim (cases_lt i (length ss)) [
      | inl b ↦ let up = g i (0, 0) (omega arith) b in (b, leb-true (get_or ss i (0, 0)).0 n (sym (there high i n ss r f b up) ∙ m), up)
      | inr b ↦ absurd (true≢false (sym m ∙ not_there i n ss f h b))
    ]
