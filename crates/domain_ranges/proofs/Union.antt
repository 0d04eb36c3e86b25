-- The loop of the union of two lists of intervals.
use Rattle.std.proofs.Common.{◌≡◌, ℕ, ◌+◌, ◌<◌, ◌≤◌, Bool, true, false, ◌||◌, ◌&&◌, leb, List, [], ◌∷◌, refl, ap, sym, ◌∙◌, subst, inl, inr, arith, length}
use Rattle.std.proofs.Common.{get_or, drop, drop_of_length-le}
use Rattle.std.proofs.lemmas.Bool.{true≢false, or_cases, cases_lt}
use Rattle.std.proofs.Math.Bool.{or_comm, or_assoc}
use Rattle.std.proofs.lemmas.List.{drop_more}
use Rattle.domain_ranges.specs.Spans.{Span, within, IsSpans}
use Rattle.domain_ranges.proofs.Spans.{within_low}
use Rattle.domain_ranges.proofs.Places.{drop_spans}
use Rattle.domain_ranges.proofs.OpenInterval.{IsFirst}

-- the numbers to come
abbrev pub in_either : List Span → List Span → ℕ → Bool
in_either xs ys n = within xs n || within ys n

later_low : (M low n : ℕ) (x : Span) (ys : List Span) → IsSpans low M ys → ((y : Span) (zs : List Span) → ys ≡ y ∷ zs → x.0 ≤ y.0) → within ys n ≡ true → x.0 ≤ n
later_low M low n x [] r f h = absurd (true≢false (sym h))
later_low M low n x (y ∷ ys) r f h = let first : x.0 ≤ y.0 = f y ys refl in let at : y.0 ≤ n = within_low y.0 M (y ∷ ys) n (omega arith, r.1, r.2, r.3) h in omega arith

first_of_two : (M low low' : ℕ) (x : Span) (xs ys : List Span) → IsSpans low M (x ∷ xs) → IsSpans low' M ys
    → ((y : Span) (zs : List Span) → ys ≡ y ∷ zs → x.0 ≤ y.0) → IsFirst M (in_either (x ∷ xs) ys) x (in_either xs ys)
first_of_two M low low' x xs ys r q f = record {
  order = r.1;
  high = r.2;
  later = λ n h. elim (or_cases (within xs n) (within ys n) h) [ inl e ↦ omega (arith, r.1, within_low (x.1 + 2) M xs n r.3 e) | inr e ↦ later_low M low' n x ys q f e ];
  same = λ n h. or_assoc (leb x.0 n && leb n x.1) (within xs n) (within ys n);
}

flip_first : (M : ℕ) (x : Span) (xs ys xs' ys' : List Span) → IsFirst M (in_either xs ys) x (in_either xs' ys') → IsFirst M (in_either ys xs) x (in_either ys' xs')
flip_first M x xs ys xs' ys' f = record {
  order = f.order;
  high = f.high;
  later = λ n h. f.later n (or_comm (within xs' n) (within ys' n) ∙ h);
  same = λ n h. or_comm (within ys n) (within xs n) ∙ f.same n h ∙ ap (λ t. (leb x.0 n && leb n x.1) || t) (or_comm (within xs' n) (within ys' n));
}

-- the interval at a place, where the other list has none there that begins before
begins : (b : List Span) (j k : ℕ) → (j < length b → k ≤ (get_or b j (0, 0)).0) → (y : Span) (zs : List Span) → drop j b ≡ y ∷ zs → k ≤ y.0
begins b j k f y zs e = elim (cases_lt j (length b)) [
  | inl l ↦ let same : get_or b j (0, 0) ∷ drop (j + 1) b ≡ y ∷ zs = sym (drop_more b j (0, 0) l) ∙ e in
      let heads : get_or b j (0, 0) ≡ y = cc in subst (λ (s : Span). k ≤ s.0) heads (f l)
  | inr l ↦ let none : [] ≡ y ∷ zs = sym (drop_of_length-le b l) ∙ e in cc
]

pub first_left : (M : ℕ) (a b : List Span) (i j : ℕ) → IsSpans 0 M a → IsSpans 0 M b → i < length a
    → (j < length b → (get_or a i (0, 0)).0 ≤ (get_or b j (0, 0)).0)
    → IsFirst M (in_either (drop i a) (drop j b)) (get_or a i (0, 0)) (in_either (drop (i + 1) a) (drop j b))
first_left M a b i j r q h f =
    let left = drop_spans 0 M i a r in let right = drop_spans 0 M j b q in
    subst (λ l. IsFirst M (in_either l (drop j b)) (get_or a i (0, 0)) (in_either (drop (i + 1) a) (drop j b))) (sym (drop_more a i (0, 0) h))
    (first_of_two M left.0 right.0 (get_or a i (0, 0)) (drop (i + 1) a) (drop j b) (subst (IsSpans left.0 M) (drop_more a i (0, 0) h) left.1) right.1 (begins b j (get_or a i (0, 0)).0 f))

pub first_right : (M : ℕ) (a b : List Span) (i j : ℕ) → IsSpans 0 M a → IsSpans 0 M b → j < length b
    → (i < length a → (get_or b j (0, 0)).0 ≤ (get_or a i (0, 0)).0)
    → IsFirst M (in_either (drop i a) (drop j b)) (get_or b j (0, 0)) (in_either (drop i a) (drop (j + 1) b))
first_right M a b i j r q h f = flip_first M (get_or b j (0, 0)) (drop j b) (drop i a) (drop (j + 1) b) (drop i a) (first_left M b a j i q r h f)

pub none_left : (a b : List Span) (i j n : ℕ) → length a ≤ i → length b ≤ j → in_either (drop i a) (drop j b) n ≡ false
none_left a b i j n h g = ap (λ l. in_either l (drop j b) n) (drop_of_length-le a h) ∙ ap (λ l. within l n) (drop_of_length-le b g)
