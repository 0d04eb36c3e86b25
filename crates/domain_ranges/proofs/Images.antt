-- What the loops make, as the sets that it is.
use Rattle.std.proofs.Common.{◌≡◌, ℕ, zero, suc, ◌+◌, ◌-◌, ◌*◌, ◌/◌, ◌<◌, ◌≤◌, Bool, true, false, not, cond, ◌||◌, ◌&&◌, ◌==◌, leb, List, [], ◌∷◌, filter, refl}
use Rattle.std.proofs.Common.{ap, sym, ◌∙◌, subst, inl, inr, ◌⊎◌, arith, length, ℤ, pos, negsuc, ◌+ℤ◌, ◌*ℤ◌, ◌≤ℤ◌, ◌<ℤ◌, neg_ℤ, eq-eqb, Option, Some, None}
use Rattle.std.proofs.Common.{IfSome, IfNone, MatchOption, IsTrue, leb-true, le-leb}
use Rattle.std.specs.Ordering.{int_eq}
use Rattle.std.proofs.lemmas.Bool.{true≢false, or_cases, or_left, or_right, and_parts, and_from, false_from_ne_true}
use Rattle.std.proofs.lemmas.Bool.Decides.{Decides-int_eq, nat_tests}
use Rattle.std.proofs.lemmas.Int.{ints}
use Rattle.std.specs.Cmp.{both_ways}
use Rattle.std.proofs.Math.Nat.{suc-mul}
use Rattle.fd_language.specs.Family.{has, universe, IsRising}
use Rattle.fd_language.specs.Range.{some_number, is_none_left, least}
use Rattle.fd_language.proofs.Lemmas.{rising_same, has-filter, has-filter_back, universe_rising, in_universe, has_high, rising-filter, not_empty, any_to}
use Rattle.fd_language.proofs.Lemmas.{any_from, some_from}
use Rattle.domain_ranges.specs.Spans.{Span, within, IsSpans, members, shifted, scaled}
use Rattle.domain_ranges.specs.Sets.{is_shifted, is_scaled, is_quotient}
use Rattle.domain_ranges.proofs.Spans.{within_high, in_head, in_later, head_or_later}
use Rattle.domain_ranges.proofs.Members.{has_within, members_is, members_none, least_once}
use Rattle.domain_ranges.proofs.Shifts.{comes, comes_parts}
use Rattle.domain_ranges.proofs.Multiples.{scaled_from, scaled_at}

-- a set by its test
pub set_is : (M : ℕ) (p : ℕ → Bool) (ns : List ℕ) → IsRising 0 M ns → ((n : ℕ) → n ≤ M → has ns n ≡ p n) → ns ≡ filter p (universe M)
set_is M p ns r h =
    rising_same 0 M ns (filter p (universe M)) r (rising-filter p 0 M (universe M) (universe_rising M))
    (record { each = λ n m. let low = has_high 0 M ns n r m in has-filter p (universe M) n (in_universe M n low) (sym (h n low) ∙ m) })
    (record { each = λ n m. let both = has-filter_back p (universe M) n m in h n (has_high 0 M (universe M) n (universe_rising M) both.0) ∙ both.1 })

-- a member of a set by its test
pub has_set : (M : ℕ) (p : ℕ → Bool) (n : ℕ) → n ≤ M → has (filter p (universe M)) n ≡ p n
has_set M p n h = both_ways (has (filter p (universe M)) n) (p n) (λ e. (has-filter_back p (universe M) n e).1) (λ e. has-filter p (universe M) n (in_universe M n h) e)

-- a set by its test rises
pub set_rising : (M : ℕ) (p : ℕ → Bool) → IsRising 0 M (filter p (universe M))
set_rising M p = rising-filter p 0 M (universe M) (universe_rising M)

-- sets by tests that agree on U
pub set_same : (M : ℕ) (p q : ℕ → Bool) → ((n : ℕ) → n ≤ M → p n ≡ q n) → filter p (universe M) ≡ filter q (universe M)
set_same M p q h = set_is M q (filter p (universe M)) (set_rising M p) (λ n l. has_set M p n l ∙ h n l)

pub some_has : (M : ℕ) (f : ℕ → Bool) (e : ℕ) → e ≤ M → f e ≡ true → some_number M f ≡ true
some_has M f e h g = any_to f (universe M) e (in_universe M e h) g

pub int_same : (x y : ℤ) → x ≡ y → int_eq x y ≡ true
int_same x y e = (Decides-int_eq x y).1 e

pub same_int : (x y : ℤ) → int_eq x y ≡ true → x ≡ y
same_int x y e = (Decides-int_eq x y).0 e

pub pos_same : (a b : ℕ) → pos a ≡ pos b → a ≡ b
pos_same a b e = cc

-- what a moved number comes of
origin : (s : Span) (c : ℤ) (n : ℕ) → comes s c n ≡ true → (e : ℕ) × (s.0 ≤ e) × (e ≤ s.1) × (pos e +ℤ c ≡ pos n)
origin s (pos k) n h = let p = comes_parts s (pos k) n h in (n - k, omega (arith, ints, p.0), omega (arith, ints, p.1), (let l : k ≤ n = omega (arith, ints, p.0) in ap pos (omega arith)))
origin s (negsuc k) n h = let p = comes_parts s (negsuc k) n h in (n + suc k, omega (arith, ints, p.0), omega (arith, ints, p.1), omega (arith, ints))

shifted_from : (ss : List Span) (c : ℤ) (n : ℕ) → shifted ss c n ≡ true → (e : ℕ) × (within ss e ≡ true) × (pos e +ℤ c ≡ pos n)
shifted_from [] c n h = absurd (true≢false (sym h))
shifted_from (s ∷ ss) c n h = elim (or_cases (comes s c n) (shifted ss c n) h) [
  | inl a ↦ let o = origin s c n a in (o.0, in_head s ss o.0 o.1 o.2, o.3)
  | inr a ↦ let later = shifted_from ss c n a in (later.0, in_later s ss later.0 later.1, later.2)
]

comes_of : (s : Span) (c : ℤ) (e n : ℕ) → s.0 ≤ e → e ≤ s.1 → pos e +ℤ c ≡ pos n → comes s c n ≡ true
comes_of s c e n h g f = grind (arith, ints)

shifted_of : (ss : List Span) (c : ℤ) (e n : ℕ) → within ss e ≡ true → pos e +ℤ c ≡ pos n → shifted ss c n ≡ true
shifted_of [] c e n h f = absurd (true≢false (sym h))
shifted_of (s ∷ ss) c e n h f = elim (head_or_later s ss e h) [
  | inl a ↦ or_left (comes s c n) (shifted ss c n) (comes_of s c e n a.0 a.1 f)
  | inr a ↦ or_right (comes s c n) (shifted ss c n) (shifted_of ss c e n a f)
]

pub shift_is : (M : ℕ) (ss : List Span) (ns : List ℕ) (c : ℤ) (n : ℕ) → IsSpans 0 M ss → members ss ≡ ns → shifted ss c n ≡ is_shifted M ns c n
shift_is M ss ns c n r e = both_ways (shifted ss c n) (is_shifted M ns c n)
    (λ t. let f = shifted_from ss c n t in some_has M (λ k. has ns k && int_eq (pos k +ℤ c) (pos n)) f.0 (within_high 0 M ss f.0 r f.1)
    (and_from (has ns f.0) (int_eq (pos f.0 +ℤ c) (pos n)) (sym (has_within M ss ns f.0 r e) ∙ f.1) (int_same (pos f.0 +ℤ c) (pos n) f.2)))
    (λ t. let f = some_from M (λ k. has ns k && int_eq (pos k +ℤ c) (pos n)) t in let both = and_parts (has ns f.0) (int_eq (pos f.0 +ℤ c) (pos n)) f.2 in
    shifted_of ss c f.0 n (has_within M ss ns f.0 r e ∙ both.0) (same_int (pos f.0 +ℤ c) (pos n) both.1))

zero_times : (b : ℕ) → 0 * b ≡ 0
zero_times b = omega arith

clamped : (M k c e n : ℕ) → (k ≡ c) ⊎ ((M < k) × (M < c)) → n ≤ M → e * k ≡ n → e * c ≡ n
clamped M k c e n (inl q) h f = ap (λ j. e * j) (sym q) ∙ f
clamped M k c zero n (inr q) h f = zero_times c ∙ sym (zero_times k) ∙ f
clamped M k c (suc e) n (inr q) h f = let s = suc-mul e k in absurd (omega (arith, q.0))

clamp_flip : (M k c : ℕ) → (k ≡ c) ⊎ ((M < k) × (M < c)) → (c ≡ k) ⊎ ((M < c) × (M < k))
clamp_flip M k c (inl q) = inl (sym q)
clamp_flip M k c (inr q) = inr (q.1, q.0)

pub scale_is : (M k c : ℕ) (ss : List Span) (ns : List ℕ) (n : ℕ) → IsSpans 0 M ss → members ss ≡ ns → 0 < c → (k ≡ c) ⊎ ((M < k) × (M < c)) → n ≤ M → scaled ss c n ≡ is_scaled M ns (pos k) n
scale_is M k c ss ns n r e p q h = both_ways (scaled ss c n) (is_scaled M ns (pos k) n)
    (λ t. let f = scaled_from ss c n t in let g = clamped M c k (n / c) n (clamp_flip M k c q) h f.0 in
    some_has M (λ j. has ns j && int_eq (pos j *ℤ pos k) (pos n)) (n / c) (within_high 0 M ss (n / c) r f.1)
    (and_from (has ns (n / c)) (int_eq (pos (n / c * k)) (pos n)) (sym (has_within M ss ns (n / c) r e) ∙ f.1)
    (int_same (pos (n / c * k)) (pos n) (ap pos g))))
    (λ t. let f = some_from M (λ j. has ns j && int_eq (pos j *ℤ pos k) (pos n)) t in let both = and_parts (has ns f.0) (int_eq (pos (f.0 * k)) (pos n)) f.2 in
    let g = clamped M k c f.0 n q h (pos_same (f.0 * k) n (same_int (pos (f.0 * k)) (pos n) both.1)) in
    subst (λ j. scaled ss c j ≡ true) g (scaled_at ss c f.0 p (has_within M ss ns f.0 r e ∙ both.0)))

pub quotient_is : (M k c : ℕ) (ss : List Span) (ns : List ℕ) (n : ℕ) → IsSpans 0 M ss → members ss ≡ ns → (k ≡ c) ⊎ ((M < k) × (M < c)) → within ss (n * c) ≡ is_quotient M ns (pos k) n
quotient_is M k c ss ns n r e q = both_ways (within ss (n * c)) (is_quotient M ns (pos k) n)
    (λ t. let low = within_high 0 M ss (n * c) r t in let g = clamped M c k n (n * c) (clamp_flip M k c q) low refl in
    some_has M (λ j. has ns j && int_eq (pos n *ℤ pos k) (pos j)) (n * c) low
    (and_from (has ns (n * c)) (int_eq (pos (n * k)) (pos (n * c))) (sym (has_within M ss ns (n * c) r e) ∙ t)
    (int_same (pos (n * k)) (pos (n * c)) (ap pos g))))
    (λ t. let f = some_from M (λ j. has ns j && int_eq (pos n *ℤ pos k) (pos j)) t in let both = and_parts (has ns f.0) (int_eq (pos (n * k)) (pos f.0)) f.2 in
    let g = clamped M k c n f.0 q f.1 (pos_same (n * k) f.0 (same_int (pos (n * k)) (pos f.0) both.1)) in
    ap (within ss) g ∙ has_within M ss ns f.0 r e ∙ both.0)

-- the set of 0 alone, or the empty set
zero_at : (b : Bool) (n : ℕ) → 0 < n → within (cond b ((0, 0) ∷ []) []) n ≡ false
zero_at true n h = grind (arith)
zero_at false n h = refl

zero_in : (b : Bool) → within (cond b ((0, 0) ∷ []) []) 0 ≡ b
zero_in true = refl
zero_in false = refl

zero_spans : (M : ℕ) (b : Bool) → IsSpans 0 M (cond b ((0, 0) ∷ []) [])
zero_spans M true = (omega arith, omega arith, omega arith, tt)
zero_spans M false = tt

pub zero_set : (M : ℕ) (b : Bool) (p : ℕ → Bool) → b ≡ p 0 → ((n : ℕ) → 0 < n → p n ≡ false) → members (cond b ((0, 0) ∷ []) []) ≡ filter p (universe M)
zero_set M b p e h = members_is M (cond b ((0, 0) ∷ []) []) p (zero_spans M b) (λ n l. at n)
  where
    at : (n : ℕ) → within (cond b ((0, 0) ∷ []) []) n ≡ p n
    at zero = zero_in b ∙ e
    at (suc n) = zero_at b (suc n) (omega arith) ∙ sym (h (suc n) (omega arith))

neg_none : (a b : ℕ) → neg_ℤ (pos a) ≡ pos b → (a ≡ 0) × (b ≡ 0)
neg_none zero b e = (refl, sym (pos_same 0 b e))
neg_none (suc a) b e = absurd (neg_apart a b e)
  where
    neg_apart : (a b : ℕ) → negsuc a ≡ pos b → ⊥
    neg_apart a b e = cc

no_product : (e k : ℕ) → e * suc k ≡ 0 → e ≡ 0
no_product zero k h = refl
no_product (suc e) k h = let s = suc-mul e (suc k) in absurd (omega arith)

neg_zero : (k : ℕ) → neg_ℤ (pos (0 * suc k)) ≡ pos 0
neg_zero k = ap (λ j. neg_ℤ (pos j)) (zero_times (suc k))

-- times a number below 0
pub negative_zero : (M : ℕ) (ns : List ℕ) (c : ℤ) → c <ℤ pos 0 → has ns 0 ≡ is_scaled M ns c 0
negative_zero M ns (pos k) h = absurd (omega (arith, ints))
negative_zero M ns (negsuc k) h = both_ways (has ns 0) (is_scaled M ns (negsuc k) 0)
    (λ t. some_has M (λ e. has ns e && int_eq (pos e *ℤ negsuc k) (pos 0)) 0 (omega arith)
    (and_from (has ns 0) (int_eq (neg_ℤ (pos (0 * suc k))) (pos 0)) t (int_same (neg_ℤ (pos (0 * suc k))) (pos 0) (neg_zero k))))
    (λ t. let f = some_from M (λ e. has ns e && int_eq (pos e *ℤ negsuc k) (pos 0)) t in let both = and_parts (has ns f.0) (int_eq (neg_ℤ (pos (f.0 * suc k))) (pos 0)) f.2 in
    let z = neg_none (f.0 * suc k) 0 (same_int (neg_ℤ (pos (f.0 * suc k))) (pos 0) both.1) in
    ap (has ns) (sym (no_product f.0 k z.0)) ∙ both.0)

no_members : (xs : List ℕ) → ((k : ℕ) → has xs k ≡ false) → xs ≡ []
no_members [] h = refl
no_members (x ∷ xs) h = absurd (true≢false (sym (or_left (x == x) (has xs x) (eq-eqb x x refl)) ∙ h x))

pub negative_none : (M : ℕ) (ns : List ℕ) (c : ℤ) (n : ℕ) → c <ℤ pos 0 → 0 < n → is_scaled M ns c n ≡ false
negative_none M ns (pos k) n h g = absurd (omega (arith, ints))
negative_none M ns (negsuc k) n h g = false_from_ne_true (is_scaled M ns (negsuc k) n) (λ t.
    let f = some_from M (λ e. has ns e && int_eq (pos e *ℤ negsuc k) (pos n)) t in let both = and_parts (has ns f.0) (int_eq (neg_ℤ (pos (f.0 * suc k))) (pos n)) f.2 in
    let z = neg_none (f.0 * suc k) n (same_int (neg_ℤ (pos (f.0 * suc k))) (pos n) both.1) in
    omega (arith, z.1))

pub times_zero : (e : ℕ) → e * 0 ≡ 0
times_zero e = omega arith

-- times 0
pub zero_zero : (M : ℕ) (ns : List ℕ) → IsRising 0 M ns → not (is_none_left ns) ≡ is_scaled M ns (pos 0) 0
zero_zero M [] r = both_ways false (is_scaled M [] (pos 0) 0) (λ t. absurd (true≢false (sym t)))
    (λ t. let f = some_from M (λ e. has [] e && int_eq (pos e *ℤ pos 0) (pos 0)) t in absurd (true≢false (sym f.2)))
zero_zero M (x ∷ xs) r = sym (some_has M (λ e. has (x ∷ xs) e && int_eq (pos e *ℤ pos 0) (pos 0)) x r.1
    (and_from (has (x ∷ xs) x) (int_eq (pos (x * 0)) (pos 0)) (or_left (x == x) (has xs x) (eq-eqb x x refl))
    (int_same (pos (x * 0)) (pos 0) (ap pos (times_zero x)))))

pub zero_none : (M : ℕ) (ns : List ℕ) (n : ℕ) → 0 < n → is_scaled M ns (pos 0) n ≡ false
zero_none M ns n g = false_from_ne_true (is_scaled M ns (pos 0) n) (λ t.
    let f = some_from M (λ e. has ns e && int_eq (pos e *ℤ pos 0) (pos n)) t in let both = and_parts (has ns f.0) (int_eq (pos (f.0 * 0)) (pos n)) f.2 in
    let z = pos_same (f.0 * 0) n (same_int (pos (f.0 * 0)) (pos n) both.1) in let y = times_zero f.0 in
    omega arith)

times_one : (e : ℕ) → e * 1 ≡ e
times_one e = omega arith

-- times 1
pub one_same : (M : ℕ) (ns : List ℕ) → IsRising 0 M ns → ns ≡ filter (is_scaled M ns (pos 1)) (universe M)
one_same M ns r = set_is M (is_scaled M ns (pos 1)) ns r (λ n l. both_ways (has ns n) (is_scaled M ns (pos 1) n)
    (λ t. some_has M (λ e. has ns e && int_eq (pos e *ℤ pos 1) (pos n)) n l (and_from (has ns n) (int_eq (pos (n * 1)) (pos n)) t (int_same (pos (n * 1)) (pos n) (ap pos (times_one n)))))
    (λ t. let f = some_from M (λ e. has ns e && int_eq (pos e *ℤ pos 1) (pos n)) t in let both = and_parts (has ns f.0) (int_eq (pos (f.0 * 1)) (pos n)) f.2 in
    ap (has ns) (sym (pos_same (f.0 * 1) n (same_int (pos (f.0 * 1)) (pos n) both.1)) ∙ times_one f.0) ∙ both.0))

-- the sets of the calls
pub union_set : (M : ℕ) (a b : List Span) (xs ys : List ℕ) → IsSpans 0 M a → IsSpans 0 M b → members a ≡ xs → members b ≡ ys
    → filter (λ n. within a n || within b n) (universe M) ≡ filter (λ n. has xs n || has ys n) (universe M)
union_set M a b xs ys r q e f = set_same M (λ n. within a n || within b n) (λ n. has xs n || has ys n)
    (λ n l. ap (λ t. t || within b n) (has_within M a xs n r e) ∙ ap (λ t. has xs n || t) (has_within M b ys n q f))

pub complement_set : (M : ℕ) (a : List Span) (xs : List ℕ) → IsSpans 0 M a → members a ≡ xs → filter (λ n. not (within a n)) (universe M) ≡ filter (λ n. not (has xs n)) (universe M)
complement_set M a xs r e = set_same M (λ n. not (within a n)) (λ n. not (has xs n)) (λ n l. ap not (has_within M a xs n r e))

pub shift_set : (M : ℕ) (a : List Span) (xs : List ℕ) (c : ℤ) → IsSpans 0 M a → members a ≡ xs → filter (shifted a c) (universe M) ≡ filter (is_shifted M xs c) (universe M)
shift_set M a xs c r e = set_same M (shifted a c) (is_shifted M xs c) (λ n l. shift_is M a xs c n r e)

as_number : (M k c : ℕ) → (pos c ≡ pos k) ⊎ ((pos M <ℤ pos k) × (M < c)) → (k ≡ c) ⊎ ((M < k) × (M < c))
as_number M k c (inl e) = inl (sym (pos_same c k e))
as_number M k c (inr e) = inr (omega (arith, ints, e.0), e.1)

pub scale_set : (M c : ℕ) (a : List Span) (xs : List ℕ) (z : ℤ) → IsSpans 0 M a → members a ≡ xs → 0 < c → pos 1 ≤ℤ z → (pos c ≡ z) ⊎ ((pos M <ℤ z) × (M < c))
    → filter (scaled a c) (universe M) ≡ filter (is_scaled M xs z) (universe M)
scale_set M c a xs (pos k) r e p h q = set_same M (scaled a c) (is_scaled M xs (pos k)) (λ n l. scale_is M k c a xs n r e p (as_number M k c q) l)
scale_set M c a xs (negsuc k) r e p h q = absurd (omega (arith, ints))

pub quotient_set : (M c : ℕ) (a : List Span) (xs : List ℕ) (z : ℤ) → IsSpans 0 M a → members a ≡ xs → pos 1 ≤ℤ z → (pos c ≡ z) ⊎ ((pos M <ℤ z) × (M < c))
    → filter (λ n. within a (n * c)) (universe M) ≡ filter (is_quotient M xs z) (universe M)
quotient_set M c a xs (pos k) r e h q = set_same M (λ n. within a (n * c)) (is_quotient M xs (pos k)) (λ n l. quotient_is M k c a xs n r e (as_number M k c q))
quotient_set M c a xs (negsuc k) r e h q = absurd (omega (arith, ints))

-- an empty list of intervals
some_length : (n : ℕ) → (suc n == 0) ≡ false
some_length n = grind (arith, nat_tests)

pub spans_none : (M : ℕ) (a : List Span) (xs : List ℕ) → IsSpans 0 M a → members a ≡ xs → (b : Bool) → b ≡ (length a == 0) → not b ≡ not (is_none_left xs)
spans_none M [] xs r e b h = ap not (h ∙ sym (ap is_none_left (sym e ∙ members_none)))
spans_none M (s ∷ ss) xs r e b h = ap not (h ∙ some_length (length ss) ∙ sym (not_empty xs s.0 (sym (has_within M (s ∷ ss) xs s.0 r e) ∙ in_head s ss s.0 (omega arith) r.1)))

-- the least member from a number on
pub next_none : (M : ℕ) (a : List Span) (xs : List ℕ) (n : ℕ) → IsSpans 0 M a → members a ≡ xs → ((k : ℕ) → n ≤ k → within a k ≡ false) → filter (λ k. leb n k) xs ≡ []
next_none M a xs n r e h = no_members (filter (λ k. leb n k) xs) (λ k. false_from_ne_true (has (filter (λ k. leb n k) xs) k) (λ t.
    let both = has-filter_back (λ j. leb n j) xs k t in true≢false (sym (has_within M a xs k r e ∙ both.0) ∙ h k (leb-true n k both.1))))

pub next_is : (M : ℕ) (a : List Span) (xs : List ℕ) (n m : ℕ) → IsSpans 0 M a → members a ≡ xs → IsRising 0 M xs → n ≤ m → within a m ≡ true
    → ((k : ℕ) → n ≤ k → within a k ≡ true → m ≤ k) → m ≡ least (filter (λ k. leb n k) xs)
next_is M a xs n m r e up h t l =
    (least_once M (filter (λ k. leb n k) xs) m (rising-filter (λ k. leb n k) 0 M xs up) (has-filter (λ k. leb n k) xs m (sym (has_within M a xs m r e) ∙ t) (le-leb n m h))
    (λ k g. let both = has-filter_back (λ j. leb n j) xs k g in l k (leb-true n k both.1) (has_within M a xs k r e ∙ both.0))).1

pub next_match : (M : ℕ) (a : List Span) (xs : List ℕ) (n : ℕ) (o : Option ℕ) → IsSpans 0 M a → members a ≡ xs → IsRising 0 M xs
    → IfNone o ((k : ℕ) → n ≤ k → within a k ≡ false) → IfSome o (λ m. n ≤ m) → IfSome o (λ m. IsTrue (within a m))
    → IfSome o (λ m. (k : ℕ) → n ≤ k → IsTrue (within a k) → m ≤ k) → MatchOption o (filter (λ k. leb n k) xs ≡ []) (λ m. m ≡ least (filter (λ k. leb n k) xs))
next_match M a xs n None r e up h f t l = next_none M a xs n r e h
next_match M a xs n (Some m) r e up h f t l = next_is M a xs n m r e up f t l

pub next_member : (M : ℕ) (a : List Span) (xs : List ℕ) (o : Option ℕ) → IsSpans 0 M a → members a ≡ xs → IfSome o (λ m. IsTrue (within a m)) → IfSome o (λ m. IsTrue (has xs m))
next_member M a xs None r e t = t
next_member M a xs (Some m) r e t = sym (has_within M a xs m r e) ∙ t

-- the factor, where the code has the integer
pub code_factor : (M : ℕ) (z v : ℤ) (c : ℕ) → v ≡ z → (pos c ≡ v) ⊎ ((pos M <ℤ v) × (M < c)) → (pos c ≡ z) ⊎ ((pos M <ℤ z) × (M < c))
code_factor M z v c e h = subst (λ u. (pos c ≡ u) ⊎ ((pos M <ℤ u) × (M < c))) e h
