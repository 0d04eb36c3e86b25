-- What an interval leaves of a set, by its ends.
use Rattle.std.proofs.Common.{◌≡◌, ℕ, ◌<◌, ◌≤◌, ◌⊎◌, inl, inr, true, false, ◌==◌, ◌&&◌, ℤ, pos, int_le, ◌<ℤ◌, ◌≤ℤ◌, max, min, List, [], ◌∷◌, filter, refl, sym}
use Rattle.std.proofs.Common.{◌∙◌, ap, subst, arith, length, set, eq-eqb}
use Rattle.std.specs.List.{refill}
use Rattle.std.proofs.lemmas.Bool.{or_left, or_right, cases_Bool}
use Rattle.std.proofs.lemmas.Bool.Decides.{nat_tests}
use Rattle.std.proofs.lemmas.Int.{ints, clamps}
use Rattle.std.specs.Int.{int_max, int_min}
use Rattle.fd_language.specs.declared.TheConstants.{INFINITY}
use Rattle.fd_language.specs.Family.{has, IsRising, IsSubset}
use Rattle.fd_language.specs.Range.{least, greatest, is_none_left}
use Rattle.fd_language.proofs.Lemmas.{has_high, least_low, least_in, greatest_in, greatest_high}
use Rattle.domain_ranges.specs.Spans.{Span, within, IsSpans, AreWithEnds, members, meet}
use Rattle.domain_ranges.specs.Narrowing.{between, IsInterval, IsPart}
use Rattle.domain_ranges.specs.declared.Part.TheVariants.{Within}
use Rattle.domain_ranges.proofs.Members.{has_members, members_rising, meet_is, spans_once, has_within, least_is, greatest_is}
use Rattle.domain_ranges.proofs.Images.{has_set}
use Rattle.domain_ranges.proofs.Intersection.{one_set}
use Rattle.domain_ranges.proofs.Inclusion.{left_of, met_one}
use Rattle.domain_ranges.proofs.Ends.{below_ends, above_ends}

-- nothing is left of a set among numbers none of which it has
none_of : (xs ys : List ℕ) → ((n : ℕ) → has xs n ≡ true → has ys n ≡ false) → filter (has ys) xs ≡ []
none_of [] ys h = refl
none_of (x ∷ xs) ys h = rw (h x (or_left (x == x) (has xs x) (eq-eqb x x refl))) (none_of xs ys (λ n g. h n (or_right (x == n) (has xs n) g)))

-- the ends of a set, and an interval
module _ (xs : List ℕ) (b : Span) (rises : IsRising 0 INFINITY xs) (some : is_none_left xs ≡ false) (order : b.0 ≤ b.1) (limit : b.1 ≤ INFINITY) where
  -- an end lies outside of the bounds
  pub less_left : (least xs < b.0) ⊎ (b.1 < greatest xs) → length (filter (has (members (b ∷ []))) xs) < length xs
  less_left (inl l) = left_of xs (members (b ∷ [])) (filter (has (members (b ∷ []))) xs) refl (below_ends b order limit xs some l)
  less_left (inr l) = left_of xs (members (b ∷ [])) (filter (has (members (b ∷ []))) xs) refl (above_ends b order limit xs some l)

  abbrev own : Span
  own = (least xs, greatest xs)

  ends_span : IsSpans 0 INFINITY (own ∷ [])
  ends_span = (omega arith, greatest_high 0 INFINITY (least xs) xs rises (least_in xs some), has_high 0 INFINITY xs (greatest xs) rises (greatest_in xs some), tt)

  -- of an interval an interval is left
  pub interval_left : (low high : ℕ) → low ≡ max (least xs) b.0 → high ≡ min (greatest xs) b.1 → low ≤ high → IsInterval xs → filter (has (members (b ∷ []))) xs ≡ members ((low, high) ∷ [])
  interval_left low high e f l i =
      let bounds : IsSpans 0 INFINITY (b ∷ []) = (omega arith, order, limit, tt) in
      sym (meet_is INFINITY (own ∷ []) (b ∷ []) xs (members (b ∷ [])) ends_span bounds (sym i) refl)
      ∙ sym (one_set INFINITY (own ∷ []) b ends_span bounds refl (meet own b) refl)
      ∙ sym (met_one own b low high (members ((low, high) ∷ [])) e f l refl).0

-- the same of the ends that are held beside the intervals
module _ (ss : List Span) (xs set : List ℕ) (ends b : Span) (low high : ℕ) (held : AreWithEnds ss ends) (same : members ss ≡ xs)
    (some : is_none_left xs ≡ false) (order : b.0 ≤ b.1) (limit : b.1 ≤ INFINITY) (is : members (b ∷ []) ≡ set) (e : low ≡ max ends.0 b.0)
    (f : high ≡ min ends.1 b.1) where
  rises : IsRising 0 INFINITY xs
  rises = subst (IsRising 0 INFINITY) same (members_rising 0 INFINITY ss held.spans)

  first : ends.0 ≡ least xs
  first = held.least ∙ ap least same

  last : ends.1 ≡ greatest xs
  last = held.greatest ∙ ap greatest same

  from : low ≡ max (least xs) b.0
  from = subst (λ k. low ≡ max k b.0) first e

  to : high ≡ min (greatest xs) b.1
  to = subst (λ k. high ≡ min k b.1) last f

  -- what the ends of what is left say
  abbrev Part : List ℕ → Type 0
  Part q = (low ≤ high) × (high ≤ INFINITY) × (length (filter (has q) xs) < length xs) × (IsInterval xs → filter (has q) xs ≡ members ((low, high) ∷ []))

  pub held_within : low ≤ high → ((b.0 ≤ ends.0) × (b.1 < ends.1)) ⊎ (ends.0 < b.0) → Part set
  held_within l k = subst Part is (
    l,
    omega (arith, f, limit),
    less_left xs b rises some order limit (elim k [ inl h ↦ inr (omega (arith, h.1, last)) | inr h ↦ inl (omega (arith, h, first)) ]),
    interval_left xs b rises some order limit low high from to l,
  )

-- two sets that agree on the members leave the same of them
filter_on : (xs ys zs : List ℕ) → ((n : ℕ) → has xs n ≡ true → has ys n ≡ has zs n) → filter (has ys) xs ≡ filter (has zs) xs
filter_on [] ys zs h = refl
filter_on (x ∷ xs) ys zs h =
    let here = h x (or_left (x == x) (has xs x) (eq-eqb x x refl)) in
    let later = filter_on xs ys zs (λ n g. h n (or_right (x == n) (has xs n) g)) in
    elim (cases_Bool (has zs x)) [
      | inl t ↦ rw (here ∙ t, t) (ap (λ l. x ∷ l) later)
      | inr t ↦ rw (here ∙ t, t) later
    ]

-- bounds that may lie anywhere, and the ends that are held
module _ (ss : List Span) (xs : List ℕ) (ends : Span) (lo hi : ℤ) (held : AreWithEnds ss ends) (same : members ss ≡ xs) where
  in_ends : (n : ℕ) → has xs n ≡ true → (ends.0 ≤ n) × (n ≤ ends.1) × (n ≤ INFINITY)
  in_ends n m =
      let r = subst (IsRising 0 INFINITY) same (members_rising 0 INFINITY ss held.spans) in
      (omega (arith, held.least ∙ ap least same, least_low 0 INFINITY n xs r m), omega (arith, held.greatest ∙ ap greatest same, greatest_high 0 INFINITY n xs r m), has_high 0 INFINITY xs n r m)

  between_is : (n : ℕ) → n ≤ INFINITY → has (between lo hi) n ≡ (int_le lo (pos n) && int_le (pos n) hi)
  between_is n l = has_set INFINITY (λ k. int_le lo (pos k) && int_le (pos k) hi) n l

  inside_both : (a b n : ℕ) → lo ≤ℤ pos a → pos b ≤ℤ hi → a ≤ n → n ≤ b → (int_le lo (pos n) && int_le (pos n) hi) ≡ true
  inside_both a b n h g k l = grind (arith, ints)

  pub all_between : lo ≤ℤ pos ends.0 → pos ends.1 ≤ℤ hi → IsSubset xs (between lo hi)
  all_between h g = record { each = λ n m. let w = in_ends n m in between_is n w.2 ∙ inside_both ends.0 ends.1 n h g w.0 w.1 }

  module _ (low high : ℤ) (from : low ≡ int_max lo (pos ends.0)) (to : high ≡ int_min hi (pos ends.1)) where
    beside_both : (n : ℕ) → high <ℤ low → ends.0 ≤ n → n ≤ ends.1 → (int_le lo (pos n) && int_le (pos n) hi) ≡ false
    beside_both n h g k = grind (arith, ints, clamps)

    pub none_between_ends : high <ℤ low → filter (has (between lo hi)) xs ≡ []
    none_between_ends h = none_of xs (between lo hi) (λ n m. let w = in_ends n m in between_is n w.2 ∙ beside_both n h w.0 w.1)

    in_both : (a b n : ℕ) → low ≡ pos a → high ≡ pos b → ends.0 ≤ n → n ≤ ends.1 → within ((a, b) ∷ []) n ≡ (int_le lo (pos n) && int_le (pos n) hi)
    in_both a b n e f h g = grind (arith, ints, clamps, nat_tests)

    pub some_between : (a b : ℕ) → low ≡ pos a → high ≡ pos b → a ≤ b → is_none_left xs ≡ false → ((lo ≤ℤ pos ends.0) × (hi <ℤ pos ends.1)) ⊎ (pos ends.0 <ℤ lo)
        → IsPart xs (between lo hi) (Within a b)
    some_between a b e f l some out =
        let a0 : ends.0 ≤ a = omega (arith, ints, clamps) in
        let b1 : b ≤ ends.1 = omega (arith, ints, clamps) in
        let last_high : ends.1 ≤ INFINITY = omega (
          arith,
          held.greatest ∙ ap greatest same,
          has_high 0 INFINITY xs (greatest xs) (subst (IsRising 0 INFINITY) same (members_rising 0 INFINITY ss held.spans)) (greatest_in xs some),
        ) in
        let moved : ((a ≤ ends.0) × (b < ends.1)) ⊎ (ends.0 < a) = elim out
        [ inl h ↦ inl (omega (arith, ints, clamps, h.0, h.1), omega (arith, ints, clamps, h.0, h.1)) | inr h ↦ inr (omega (arith, ints, clamps, h)) ] in
        let part = held_within ss xs (members ((a, b) ∷ [])) ends (a, b) a b held same some l (omega arith) refl (omega arith) (omega arith) l moved in
        let agree = filter_on xs (members ((a, b) ∷ [])) (between lo hi) (λ n m. let w = in_ends n m in
        has_members 0 INFINITY ((a, b) ∷ []) n (omega arith, l, omega arith, tt) ∙ in_both a b n e f w.0 w.1 ∙ sym (between_is n w.2)) in
        (part.0, part.1, subst (λ q. length q < length xs) agree part.2, λ i. sym agree ∙ part.3 i, sym agree)

  -- by where the bounds lie
  pub cut_below : pos ends.0 <ℤ lo → (high : ℤ) → high ≡ int_min hi (pos ends.1) → (a b : ℕ) → lo ≡ pos a → high ≡ pos b → a ≤ b → is_none_left xs ≡ false → IsPart xs (between lo hi) (Within a b)
  cut_below less high to a b e f l some = some_between lo high (omega (arith, ints, clamps, less)) to a b e f l some (inr less)

  pub cut_above : lo ≤ℤ pos ends.0 → pos ends.0 ≤ℤ hi → hi <ℤ pos ends.1 → (b : ℕ) → hi ≡ pos b → is_none_left xs ≡ false → IsPart xs (between lo hi) (Within ends.0 b)
  cut_above h g less b f some = some_between (pos ends.0) hi (omega (arith, ints, clamps, h)) (omega (arith, ints, clamps, less)) ends.0 b refl f (omega (arith, ints, f, g)) some (inl (h, less))

  pub none_above : pos ends.0 <ℤ lo → (high : ℤ) → high ≡ int_min hi (pos ends.1) → high <ℤ lo → filter (has (between lo hi)) xs ≡ []
  none_above less high to h = none_between_ends lo high (omega (arith, ints, clamps, less)) to h

  pub none_below : lo ≤ℤ pos ends.0 → hi <ℤ pos ends.0 → filter (has (between lo hi)) xs ≡ []
  none_below h less = none_between_ends (pos ends.0) (int_min hi (pos ends.1)) (omega (arith, ints, clamps, h)) refl (omega (arith, ints, clamps, less))

-- a set is an interval where one interval is all of it
pub one_interval : (ss : List Span) (xs : List ℕ) (ends : Span) → AreWithEnds ss ends → members ss ≡ xs → length ss ≡ 1 → IsInterval xs
one_interval [] xs ends held e h = absurd (omega (arith, h))
one_interval (s ∷ t ∷ ss) xs ends held e h = absurd (omega (arith, h))
one_interval (s ∷ []) xs ends held e h =
    let first : s.0 ≡ least xs = (least_is INFINITY (s ∷ []) xs held.spans e (omega arith)).1 in
    let last : s.1 ≡ greatest xs = (greatest_is INFINITY (s ∷ []) xs held.spans e (omega arith)).1 in
    let own : ◌≡◌ {A = Span} s (least xs, greatest xs) = λ i. (first i, last i) in
    sym e ∙ ap (λ (q : Span). members (q ∷ [])) own

pub ordered : (xs : List ℕ) → IsRising 0 INFINITY xs → IsSpans 0 INFINITY ((least xs, greatest xs) ∷ [])
ordered [] r = (omega arith, omega arith, omega arith, tt)
ordered (x ∷ xs) r = let ys : List ℕ = x ∷ xs in (omega arith, greatest_high 0 INFINITY (least ys) ys r (least_in ys refl), has_high 0 INFINITY ys (greatest ys) r (greatest_in ys refl), tt)

pub interval_alone : (ss : List Span) (xs : List ℕ) → IsSpans 0 INFINITY ss → members ss ≡ xs → IsInterval xs → length ss ≡ 1
interval_alone ss xs r e i =
    let q = ordered xs (subst (IsRising 0 INFINITY) e (members_rising 0 INFINITY ss r)) in
    ap length (spans_once 0 INFINITY ss ((least xs, greatest xs) ∷ []) r q (λ n. has_within INFINITY ss xs n r e ∙ sym (has_within INFINITY ((least xs, greatest xs) ∷ []) xs n q (sym i))))

-- the only interval is replaced
pub replaced : (xs ys : List Span) (v : Span) → ys ≡ xs → length xs ≡ 1 → refill (length xs) xs (set ys 0 v) ≡ v ∷ []
replaced [] ys v e h = absurd (omega (arith, h))
replaced (s ∷ t ∷ xs) ys v e h = absurd (omega (arith, h))
replaced (s ∷ []) ys v e h = ap (λ q. refill 1 (s ∷ []) (set q 0 v)) e
