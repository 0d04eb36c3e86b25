-- The numbers of a list of intervals.
use Rattle.std.proofs.Common.{◌≡◌, ℕ, zero, suc, ◌+◌, ◌-◌, ◌<◌, ◌≤◌, Bool, true, false, ◌||◌, ◌&&◌, ◌==◌, not, leb, List, [], ◌∷◌, ◌++◌, filter, refl, ap, sym}
use Rattle.std.proofs.Common.{◌∙◌, subst, inl, inr, arith, length, get_or, length-append, ℤ, pos, negsuc, int_le, ◌<ℤ◌, ◌⊎◌, append-nil}
use Rattle.std.proofs.lemmas.Bool.{and_parts, and_from, true≢false, cases_lt}
use Rattle.std.proofs.lemmas.Bool.Decides.{nat_tests}
use Rattle.std.proofs.lemmas.Int.{ints}
use Rattle.std.proofs.Math.Bool.{or-false}
use Rattle.std.proofs.lemmas.List.Elements.{filter_agree}
use Rattle.fd_language.specs.Family.{has, universe, IsRising, count_up}
use Rattle.fd_language.specs.Range.{least, greatest, is_none_left}
use Rattle.fd_language.proofs.Lemmas.{rising_same, has-filter, has-filter_back, universe_rising, in_universe, has_high, has_low, rising-filter, least_low}
use Rattle.fd_language.proofs.Lemmas.{least_in, greatest_in, greatest_high, not_empty, rising_later as rising_from, later_in}
use Rattle.domain_ranges.proofs.Spans.{within_low, least_first, greatest_end, count, in_head, past_first, behind_first}
use Rattle.domain_ranges.specs.Spans.{Span, within, IsSpans, members, interval_count, has_int}

up_step : (low n k : ℕ) → has (count_up (suc low) n) k ≡ (leb (suc low) k && leb (suc k) (suc low + n)) → ((low == k) || has (count_up (suc low) n) k) ≡ (leb low k && leb (suc k) (low + suc n))
up_step low n k h = grind (arith, nat_tests, h)

has_up : (low n k : ℕ) → has (count_up low n) k ≡ (leb low k && leb (suc k) (low + n))
has_up low zero k = grind (arith, nat_tests)
has_up low (suc n) k = up_step low n k (has_up (suc low) n k)

pub has_append : (xs ys : List ℕ) (n : ℕ) → has (xs ++ ys) n ≡ (has xs n || has ys n)
has_append [] ys n = refl
has_append (x ∷ xs) ys n = let h = has_append xs ys n in grind (arith, h)

span_step : (a b n : ℕ) (w m u : Bool) → a ≤ b → m ≡ w → u ≡ (leb a n && leb (suc n) (a + (suc b - a))) → (u || m) ≡ ((leb a n && leb n b) || w)
span_step a b n w m u h e f = grind (arith, nat_tests)

pub has_members : (low high : ℕ) (ss : List Span) (n : ℕ) → IsSpans low high ss → has (members ss) n ≡ within ss n
unfolding members
has_members low high [] n r = refl
has_members low high (s ∷ ss) n r =
    has_append (count_up s.0 (suc s.1 - s.0)) (members ss) n
    ∙ span_step s.0 s.1 n (within ss n) (has (members ss) n) (has (count_up s.0 (suc s.1 - s.0)) n) r.1 (has_members (s.1 + 2) high ss n r.3) (has_up s.0 (suc s.1 - s.0) n)

pub up_append : (low n high : ℕ) (xs : List ℕ) → low + n ≤ suc high → IsRising (low + n) high xs → IsRising low high (count_up low n ++ xs)
up_append low zero high xs h r = subst (λ k. IsRising k high xs) (omega arith) r
up_append low (suc n) high xs h r = (omega arith, omega arith, up_append (suc low) n high xs (omega arith) (let e : low + suc n ≡ suc low + n = omega arith in subst (λ k. IsRising k high xs) e r))

pub members_rising : (low high : ℕ) (ss : List Span) → IsSpans low high ss → IsRising low high (members ss)
unfolding members
members_rising low high [] r = tt
members_rising low high (s ∷ ss) r =
    let later : IsRising (s.1 + 2) high (members ss) = members_rising (s.1 + 2) high ss r.3 in
    rising_from low high s.0 (count_up s.0 (suc s.1 - s.0) ++ members ss) r.0
    (up_append s.0 (suc s.1 - s.0) high (members ss) (omega (arith, r.1, r.2)) (rising_from (s.0 + (suc s.1 - s.0)) high (s.1 + 2) (members ss) (omega (arith, r.1)) later))

-- a set by its test
pub members_is : (M : ℕ) (ss : List Span) (p : ℕ → Bool) → IsSpans 0 M ss → ((n : ℕ) → n ≤ M → within ss n ≡ p n) → members ss ≡ filter p (universe M)
members_is M ss p r h =
    let rises = members_rising 0 M ss r in
    rising_same 0 M (members ss) (filter p (universe M)) rises (rising-filter p 0 M (universe M) (universe_rising M))
    (record { each = λ n m. let low = has_high 0 M (members ss) n rises m in has-filter p (universe M) n (in_universe M n low) (sym (h n low) ∙ sym (has_members 0 M ss n r) ∙ m) })
    (record { each = λ n m. let both = has-filter_back p (universe M) n m in let low = has_high 0 M (universe M) n (universe_rising M) both.0 in has_members 0 M ss n r ∙ h n low ∙ both.1 })

-- an intersection as a part of U, and as a part of one of the two
pub filter_inside : (M : ℕ) (xs ys : List ℕ) → IsRising 0 M xs → filter (λ n. has xs n && has ys n) (universe M) ≡ filter (has ys) xs
filter_inside M xs ys r =
    rising_same 0 M (filter (λ n. has xs n && has ys n) (universe M)) (filter (has ys) xs)
    (rising-filter (λ n. has xs n && has ys n) 0 M (universe M) (universe_rising M)) (rising-filter (has ys) 0 M xs r)
    (record { each = λ n m. let both = and_parts (has xs n) (has ys n) (has-filter_back (λ k. has xs k && has ys k) (universe M) n m).1 in has-filter (has ys) xs n both.0 both.1 })
    (record {
      each = λ n m. let both = has-filter_back (has ys) xs n m in
          has-filter (λ k. has xs k && has ys k) (universe M) n (in_universe M n (has_high 0 M xs n r both.0)) (and_from (has xs n) (has ys n) both.0 both.1);
    })

pub length_up : (low n : ℕ) → length (count_up low n) ≡ n
length_up low zero = refl
length_up low (suc n) = ap suc (length_up (suc low) n)

pub length_members : (ss : List Span) → length (members ss) ≡ count ss
unfolding members
length_members [] = refl
length_members (s ∷ ss) = length-append (count_up s.0 (suc s.1 - s.0)) (members ss) ∙ (let a = length_up s.0 (suc s.1 - s.0) in let b = length_members ss in omega arith)

pub members_none : members [] ≡ []
unfolding members
members_none = refl

sub_zero : (M : ℕ) → suc M - 0 ≡ suc M
sub_zero M = omega arith

pub members_full : (M : ℕ) → members ((0, M) ∷ []) ≡ universe M
unfolding members universe
members_full M = ap (λ k. count_up 0 k ++ []) (sub_zero M) ∙ append-nil (count_up 0 (suc M))

pub least_once : (M : ℕ) (xs : List ℕ) (n : ℕ) → IsRising 0 M xs → has xs n ≡ true → ((m : ℕ) → has xs m ≡ true → n ≤ m) → (is_none_left xs ≡ false) × (n ≡ least xs)
least_once M xs n r h l = let some = not_empty xs n h in let low = least_low 0 M n xs r h in let up = l (least xs) (least_in xs some) in (some, omega arith)

greatest_once : (M : ℕ) (xs : List ℕ) (n : ℕ) → IsRising 0 M xs → has xs n ≡ true → ((m : ℕ) → has xs m ≡ true → m ≤ n) → (is_none_left xs ≡ false) × (n ≡ greatest xs)
greatest_once M xs n r h l = let some = not_empty xs n h in let low = greatest_high 0 M n xs r h in let up = l (greatest xs) (greatest_in xs some) in (some, omega arith)

pub least_is : (M : ℕ) (ss : List Span) (xs : List ℕ) → IsSpans 0 M ss → members ss ≡ xs → 1 ≤ length ss → (is_none_left xs ≡ false) × ((get_or ss 0 (0, 0)).0 ≡ least xs)
least_is M ss xs r e h =
    let l = least_first M ss ss r refl h in
    subst (λ (ys : List ℕ). (is_none_left ys ≡ false) × ((get_or ss 0 (0, 0)).0 ≡ least ys)) e
    (least_once M (members ss) (get_or ss 0 (0, 0)).0 (members_rising 0 M ss r) (has_members 0 M ss _ r ∙ l.there) (λ m g. l.least m (sym (has_members 0 M ss m r) ∙ g)))

pub greatest_is : (M : ℕ) (ss : List Span) (xs : List ℕ) → IsSpans 0 M ss → members ss ≡ xs → 1 ≤ length ss → (is_none_left xs ≡ false) × ((get_or ss (length ss - 1) (0, 0)).1 ≡ greatest xs)
greatest_is M ss xs r e h =
    let l = greatest_end M ss ss r refl h in
    subst (λ (ys : List ℕ). (is_none_left ys ≡ false) × ((get_or ss (length ss - 1) (0, 0)).1 ≡ greatest ys)) e
    (greatest_once M (members ss) (get_or ss (length ss - 1) (0, 0)).1 (members_rising 0 M ss r) (has_members 0 M ss _ r ∙ l.there) (λ m g. l.greatest m (sym (has_members 0 M ss m r) ∙ g)))

no_spans : (ss : List Span) → length ss < 1 → members ss ≡ []
no_spans [] h = members_none
no_spans (s ∷ ss) h = absurd (omega arith)

pub none_is : (ss : List Span) (xs : List ℕ) → members ss ≡ xs → length ss < 1 → xs ≡ []
none_is ss xs e h = sym e ∙ no_spans ss h

-- three members, and at least three places
one_place : (xs : List ℕ) (c : ℕ) → has xs c ≡ true → 1 ≤ length xs
one_place [] c h = absurd (true≢false (sym h))
one_place (x ∷ xs) c h = omega arith

two_places : (low high b c : ℕ) (xs : List ℕ) → IsRising low high xs → has xs b ≡ true → has xs c ≡ true → b < c → 2 ≤ length xs
two_places low high b c [] r h g l = absurd (true≢false (sym h))
two_places low high b c (x ∷ xs) r h g l = let first = has_low x high (x ∷ xs) b (omega arith, r.1, r.2) h in omega (arith, one_place xs c (later_in low high x c xs g (omega arith)))

three_places : (low high a b c : ℕ) (xs : List ℕ) → IsRising low high xs → has xs a ≡ true → has xs b ≡ true → has xs c ≡ true → a < b → b < c → 3 ≤ length xs
three_places low high a b c [] r f h g k l = absurd (true≢false (sym h))
three_places low high a b c (x ∷ xs) r f h g k l =
    let first = has_low x high (x ∷ xs) a (omega arith, r.1, r.2) f in
    omega (arith, two_places (suc x) high b c xs r.2 (later_in low high x b xs h (omega arith)) (later_in low high x c xs g (omega arith)) l)

ends_here : (xs : List ℕ) (n : ℕ) → has xs n ≡ true → has xs (suc n) ≡ false → has (filter (λ k. not (has xs (suc k))) xs) n ≡ true
ends_here xs n h g = has-filter (λ k. not (has xs (suc k))) xs n h (ap not g)

past_greatest : (M : ℕ) (xs : List ℕ) (b : Bool) → IsRising 0 M xs → has xs (suc (greatest xs)) ≡ b → b ≡ false
past_greatest M xs false r h = refl
past_greatest M xs true r h = absurd (omega (arith, greatest_high 0 M (suc (greatest xs)) xs r h))

-- two members that end an interval, and one past them
pub three_intervals : (M a b x : ℕ) (xs : List ℕ) → IsRising 0 M xs → has xs a ≡ true → has xs (suc a) ≡ false → has xs b ≡ true → has xs (suc b) ≡ false
    → has xs x ≡ true → a < b → b < x → 2 < interval_count xs
unfolding interval_count
three_intervals M a b x xs r p p' q q' h k l =
    let up = greatest_high 0 M x xs r h in
    let some = not_empty xs x h in
    three_places 0 M a b (greatest xs) (filter (λ n. not (has xs (suc n))) xs) (rising-filter (λ n. not (has xs (suc n))) 0 M xs r)
    (ends_here xs a p p') (ends_here xs b q q') (ends_here xs (greatest xs) (greatest_in xs some) (past_greatest M xs _ r refl)) k (omega arith)

-- the same for a list of at least three intervals
pub three_spans : (M : ℕ) (ss : List Span) (xs : List ℕ) → IsSpans 0 M ss → members ss ≡ xs → 2 < length ss → 2 < interval_count xs
three_spans M [] xs r e h = absurd (omega arith)
three_spans M (s ∷ []) xs r e h = absurd (omega arith)
three_spans M (s ∷ t ∷ []) xs r e h = absurd (omega arith)
three_spans M (s ∷ t ∷ u ∷ us) xs r e h =
    let all = s ∷ t ∷ u ∷ us in
    let to : (n : ℕ) → has xs n ≡ within all n = λ n. sym (ap (λ l. has l n) e) ∙ has_members 0 M all n r in
    let s1 : s.1 + 2 ≤ t.0 = r.3.0 in
    let t1 : t.0 ≤ t.1 = r.3.1 in
    let u0 : t.1 + 2 ≤ u.0 = r.3.3.0 in
    three_intervals M s.1 t.1 u.0 xs (subst (IsRising 0 M) e (members_rising 0 M all r))
    (to s.1 ∙ in_head s (t ∷ u ∷ us) s.1 r.1 (omega arith)) (to (suc s.1) ∙ behind_first 0 M s (t ∷ u ∷ us) r)
    (to t.1 ∙ past_first s (t ∷ u ∷ us) t.1 (omega arith) ∙ in_head t (u ∷ us) t.1 t1 (omega arith))
    (to (suc t.1) ∙ past_first s (t ∷ u ∷ us) (suc t.1) (omega arith) ∙ behind_first (s.1 + 2) M t (u ∷ us) r.3)
    (to u.0 ∙ past_first s (t ∷ u ∷ us) u.0 (omega arith) ∙ past_first t (u ∷ us) u.0 (omega arith) ∙ in_head u us u.0 (omega arith) r.3.3.1)
    (omega arith) (omega arith)

-- the numbers of two lists of intervals, as the sets that they are
pub meet_is : (M : ℕ) (a b : List Span) (xs ys : List ℕ) → IsSpans 0 M a → IsSpans 0 M b → members a ≡ xs → members b ≡ ys → filter (λ n. within a n && within b n) (universe M) ≡ filter (has ys) xs
meet_is M a b xs ys r q e f =
    filter_agree (λ n. within a n && within b n) (λ n. has xs n && has ys n)
    (λ n. ap (λ t. t && within b n) (sym (has_members 0 M a n r) ∙ ap (λ l. has l n) e) ∙ ap (λ t. has xs n && t) (sym (has_members 0 M b n q) ∙ ap (λ l. has l n) f)) (universe M)
    ∙ filter_inside M xs ys (subst (IsRising 0 M) e (members_rising 0 M a r))

-- the least, the greatest member of a set with a member is in it
pub least_has : (xs : List ℕ) (n : ℕ) → is_none_left xs ≡ false → n ≡ least xs → has xs n ≡ true
least_has xs n h e = ap (has xs) e ∙ least_in xs h

pub greatest_has : (xs : List ℕ) (n : ℕ) → is_none_left xs ≡ false → n ≡ greatest xs → has xs n ≡ true
greatest_has xs n h e = ap (has xs) e ∙ greatest_in xs h

-- whether an integer is a member
pub has_within : (M : ℕ) (ss : List Span) (xs : List ℕ) (n : ℕ) → IsSpans 0 M ss → members ss ≡ xs → within ss n ≡ has xs n
has_within M ss xs n r e = sym (has_members 0 M ss n r) ∙ ap (λ l. has l n) e

has_above : (M : ℕ) (xs : List ℕ) (n : ℕ) (b : Bool) → IsRising 0 M xs → M < n → has xs n ≡ b → b ≡ false
has_above M xs n false r h e = refl
has_above M xs n true r h e = absurd (omega (arith, has_high 0 M xs n r e))

pub outside : (M : ℕ) (xs : List ℕ) (z : ℤ) → IsRising 0 M xs → (z <ℤ pos 0) ⊎ (pos M <ℤ z) → has_int xs z ≡ false
outside M xs (pos n) r (inl h) = absurd (omega (arith, ints))
outside M xs (pos n) r (inr h) = has_above M xs n (has xs n) r (omega (arith, ints)) refl
outside M xs (negsuc n) r h = refl

pub interval_some : (M : ℕ) (s : Span) (lo hi : ℤ) → s.0 ≤ s.1 → s.1 ≤ M
    → ((n : ℕ) → n ≤ M → (leb s.0 n && leb n s.1) ≡ (int_le lo (pos n) && int_le (pos n) hi))
    → members (s ∷ []) ≡ filter (λ n. int_le lo (pos n) && int_le (pos n) hi) (universe M)
interval_some M s lo hi h g f = members_is M (s ∷ []) (λ n. int_le lo (pos n) && int_le (pos n) hi) (omega arith, h, g, tt) (λ n l. or-false (leb s.0 n && leb n s.1) ∙ f n l)

pub interval_none : (M : ℕ) (lo hi : ℤ) → ((n : ℕ) → n ≤ M → (int_le lo (pos n) && int_le (pos n) hi) ≡ false) → members [] ≡ filter (λ n. int_le lo (pos n) && int_le (pos n) hi) (universe M)
interval_none M lo hi f = members_is M [] (λ n. int_le lo (pos n) && int_le (pos n) hi) tt (λ n l. sym (f n l))

-- an answer about a number of U, as one about an integer
pub member_of : (M : ℕ) (ss : List Span) (xs : List ℕ) (z : ℤ) (k : ℕ) (r : Bool) → IsSpans 0 M ss → members ss ≡ xs → r ≡ within ss k → z ≡ pos k → r ≡ has_int xs z
member_of M ss xs z k r s e h g = h ∙ has_within M ss xs k s e ∙ ap (has_int xs) (sym g)

-- a set has one list of intervals
first_less : (low high m : ℕ) (s : Span) (ss ts : List Span) → IsSpans low high (s ∷ ss) → IsSpans m high ts → ((n : ℕ) → within (s ∷ ss) n ≡ within ts n) → m ≤ s.0
first_less low high m s ss ts r q h = within_low m high ts s.0 q (sym (h s.0) ∙ in_head s ss s.0 (omega arith) r.1)

end_less : (low high : ℕ) (s t : Span) (ss ts : List Span) → IsSpans low high (s ∷ ss) → IsSpans low high (t ∷ ts) → s.0 ≡ t.0 → ((n : ℕ) → within (s ∷ ss) n ≡ within (t ∷ ts) n) → (s.1 < t.1 → ⊥)
end_less low high s t ss ts r q e h l = true≢false (sym (in_head t ts (suc s.1) (omega (arith, r.1)) l) ∙ sym (h (suc s.1)) ∙ behind_first low high s ss r)

no_span : (low high : ℕ) (s : Span) (ss : List Span) → IsSpans low high (s ∷ ss) → ((n : ℕ) → within (s ∷ ss) n ≡ false) → ⊥
no_span low high s ss r h = true≢false (sym (in_head s ss s.0 (omega arith) r.1) ∙ h s.0)

low_bit : (low n : ℕ) (b : Bool) → (b ≡ true → low ≤ n) → n < low → b ≡ false
low_bit low n false f h = refl
low_bit low n true f h = absurd (omega (arith, f refl))

rest_same : (low high : ℕ) (s t : Span) (ss ts : List Span) → IsSpans low high (s ∷ ss) → IsSpans low high (t ∷ ts) → s ≡ t
    → ((n : ℕ) → within (s ∷ ss) n ≡ within (t ∷ ts) n) → (n : ℕ) → within ss n ≡ within ts n
rest_same low high s t ss ts r q e h n = elim (cases_lt s.1 n) [
  | inl l ↦ sym (past_first s ss n l) ∙ h n ∙ past_first t ts n (subst (λ (u : Span). u.1 < n) e l)
  | inr l ↦ low_bit (s.1 + 2) n (within ss n) (within_low (s.1 + 2) high ss n r.3) (omega arith)
      ∙ sym (low_bit (t.1 + 2) n (within ts n) (within_low (t.1 + 2) high ts n q.3) (let g : n ≤ t.1 = subst (λ (u : Span). n ≤ u.1) e l in omega arith))
]

pub spans_once : (low high : ℕ) (ss ts : List Span) → IsSpans low high ss → IsSpans low high ts → ((n : ℕ) → within ss n ≡ within ts n) → ss ≡ ts
spans_once low high [] [] r q h = refl
spans_once low high [] (t ∷ ts) r q h = absurd (no_span low high t ts q (λ n. sym (h n)))
spans_once low high (s ∷ ss) [] r q h = absurd (no_span low high s ss r h)
spans_once low high (s ∷ ss) (t ∷ ts) r q h =
    let a = first_less low high t.0 s ss (t ∷ ts) r (omega arith, q.1, q.2, q.3) h in
    let b = first_less low high s.0 t ts (s ∷ ss) q (omega arith, r.1, r.2, r.3) (λ n. sym (h n)) in
    let starts : s.0 ≡ t.0 = omega arith in
    let c = end_less low high s t ss ts r q starts h in
    let d = end_less low high t s ts ss q r (sym starts) (λ n. sym (h n)) in
    let ends : s.1 ≡ t.1 = grind (arith, c, d) in
    let heads : s ≡ t = λ i. (starts i, ends i) in
    let tails : ss ≡ ts = spans_once (s.1 + 2) high ss ts r.3 (subst (λ (u : Span). IsSpans (u.1 + 2) high ts) (sym heads) q.3) (rest_same low high s t ss ts r q heads h) in
    cc
