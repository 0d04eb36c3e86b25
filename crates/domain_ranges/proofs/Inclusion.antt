-- Whether the numbers of a list of intervals are all in another one.
use Rattle.std.proofs.Common.{◌≡◌, ℕ, suc, ◌+◌, ◌<◌, ◌≤◌, true, false, List, [], ◌∷◌, filter, ℤ, pos, int_le, ◌&&◌, refl, sym, ◌∙◌, ap, subst, inl, inr, ◌⊎◌}
use Rattle.std.proofs.Common.{arith, length, get_or, drop, drop_of_length-le}
use Rattle.std.proofs.lemmas.Bool.{true≢false}
use Rattle.fd_language.specs.Family.{has, IsSubset}
use Rattle.fd_language.proofs.Lemmas.{has-filter_back, shorter_or_same}
use Rattle.domain_ranges.specs.Spans.{Span, within, IsSpans, members, meet}
use Rattle.domain_ranges.specs.declared.Narrowed.{Narrowed}
use Rattle.domain_ranges.specs.declared.Narrowed.TheVariants.{Same, Empty, Changed}
use Rattle.std.proofs.lemmas.Bool.{cases_Bool}
use Rattle.std.proofs.lemmas.Bool.Decides.{nat_tests}
use Rattle.std.proofs.Common.{leb, leb-true, max, min}
use Rattle.std.proofs.lemmas.List.{drop_more}
use Rattle.domain_ranges.specs.Narrowing.{between, IsNarrowed, IsLeft}
use Rattle.domain_ranges.proofs.Members.{has_within, interval_none, members_none, least_is}
use Rattle.fd_language.specs.declared.TheConstants.{INFINITY}
use Rattle.domain_ranges.proofs.Spans.{head_or_later, in_head, in_later, within_low, past_first, behind_first, not_within}
use Rattle.domain_ranges.proofs.Places.{drop_spans}

abbrev pub AllIn : List Span → List Span → Type 0
AllIn a b = (n : ℕ) → within a n ≡ true → within b n ≡ true

abbrev pub SomeOut : List Span → List Span → Type 0
SomeOut a b = (n : ℕ) × (within a n ≡ true) × (within b n ≡ false)

-- what is left of the lists answers for all of them
pub record Comparing (a b ra rb : List Span) : Type 0 where
  pub inside : AllIn ra rb → AllIn a b
  pub outside : SomeOut ra rb → SomeOut a b

-- an interval that ends below the first number to look for
pass_other : (low M : ℕ) (a b xs ys : List Span) (x y : Span) → IsSpans low M (x ∷ xs) → y.1 < x.0 → Comparing a b (x ∷ xs) (y ∷ ys) → Comparing a b (x ∷ xs) ys
pass_other low M a b xs ys x y r h c = record {
  inside = λ f. c.inside (λ n g. in_later y ys n (f n g));
  outside = λ (n, g, k). c.outside (n, g, past_first y ys n (let l : x.0 ≤ n = within_low x.0 M (x ∷ xs) n (omega arith, r.1, r.2, r.3) g in omega arith) ∙ k);
}

-- an interval that is all in the other one
pass_one : (a b xs ys : List Span) (x y : Span) → y.0 ≤ x.0 → x.1 ≤ y.1 → Comparing a b (x ∷ xs) (y ∷ ys) → Comparing a b xs (y ∷ ys)
pass_one a b xs ys x y h g c = record {
  inside = λ f. c.inside (λ n k. elim (head_or_later x xs n k) [ inl e ↦ in_head y ys n (omega (arith, e.0)) (omega (arith, e.1)) | inr e ↦ f n e ]);
  outside = λ (n, k, l). c.outside (n, in_later x xs n k, l);
}

-- a number that is missing
missing : (low low' M : ℕ) (xs ys : List Span) (x y : Span) → IsSpans low M (x ∷ xs) → IsSpans low' M (y ∷ ys) → x.0 ≤ y.1 → (x.0 < y.0) ⊎ (y.1 < x.1) → SomeOut (x ∷ xs) (y ∷ ys)
missing low low' M xs ys x y r q h (inl e) = (x.0, in_head x xs x.0 (omega arith) r.1, not_within y.0 M x.0 (y ∷ ys) (within (y ∷ ys) x.0) (omega arith, q.1, q.2, q.3) e refl)
missing low low' M xs ys x y r q h (inr e) = (suc y.1, in_head x xs (suc y.1) (omega arith) (omega arith), behind_first low' M y ys q)

-- the same at places
module _ (M : ℕ) (a b : List Span) (i j : ℕ) (r : IsSpans 0 M a) (q : IsSpans 0 M b) (h : i < length a) (c : Comparing a b (drop i a) (drop j b)) where
  abbrev x : Span
  x = get_or a i (0, 0)

  abbrev y : Span
  y = get_or b j (0, 0)

  left : (low : ℕ) × IsSpans low M (x ∷ drop (i + 1) a)
  left = let d = drop_spans 0 M i a r in (d.0, subst (IsSpans d.0 M) (drop_more a i (0, 0) h) d.1)

  right : j < length b → (low : ℕ) × IsSpans low M (y ∷ drop (j + 1) b)
  right g = let d = drop_spans 0 M j b q in (d.0, subst (IsSpans d.0 M) (drop_more b j (0, 0) g) d.1)

  both : j < length b → Comparing a b (x ∷ drop (i + 1) a) (y ∷ drop (j + 1) b)
  both g = subst (λ l. Comparing a b l (y ∷ drop (j + 1) b)) (drop_more a i (0, 0) h) (subst (λ l. Comparing a b (drop i a) l) (drop_more b j (0, 0) g) c)

  pub other_passed : j < length b → y.1 < x.0 → Comparing a b (drop i a) (drop (j + 1) b)
  other_passed g e = subst (λ l. Comparing a b l (drop (j + 1) b)) (sym (drop_more a i (0, 0) h)) (pass_other left.0 M a b (drop (i + 1) a) (drop (j + 1) b) x y left.1 e (both g))

  pub one_passed : j < length b → y.0 ≤ x.0 → x.1 ≤ y.1 → Comparing a b (drop (i + 1) a) (drop j b)
  one_passed g e f = subst (λ l. Comparing a b (drop (i + 1) a) l) (sym (drop_more b j (0, 0) g)) (pass_one a b (drop (i + 1) a) (drop (j + 1) b) x y e f (both g))

  pub none_there : length b ≤ j → SomeOut a b
  none_there g = c.outside (
    x.0,
    subst (λ l. within l x.0 ≡ true) (sym (drop_more a i (0, 0) h)) (in_head x (drop (i + 1) a) x.0 (omega arith) left.1.1),
    ap (λ l. within l x.0) (drop_of_length-le b g),
  )

  pub one_missing : j < length b → x.0 ≤ y.1 → (x.0 < y.0) ⊎ (y.1 < x.1) → SomeOut a b
  one_missing g e f = (both g).outside (missing left.0 (right g).0 M (drop (i + 1) a) (drop (j + 1) b) x y left.1 (right g).1 e f)

-- a set that loses a member is shorter
pub loses : (xs ys : List ℕ) (n : ℕ) → has xs n ≡ true → has ys n ≡ false → length (filter (has ys) xs) < length xs
loses xs ys n h g = elim (shorter_or_same (has ys) xs) [
  | inl l ↦ l
  | inr e ↦ absurd (true≢false (sym (has-filter_back (has ys) xs n (ap (λ l. has l n) e ∙ h)).1 ∙ g))
]

pub none_in : (xs ys : List ℕ) → ((n : ℕ) → has ys n ≡ false) → filter (has ys) xs ≡ []
none_in [] ys h = refl
none_in (x ∷ xs) ys h = rw (h x) (none_in xs ys h)

-- the same of the sets that the intervals are
pub subset_of : (M : ℕ) (a b : List Span) (xs ys : List ℕ) → IsSpans 0 M a → IsSpans 0 M b → members a ≡ xs → members b ≡ ys → AllIn a b → IsSubset xs ys
subset_of M a b xs ys r q e f h = record { each = λ n g. sym (has_within M b ys n q f) ∙ h n (has_within M a xs n r e ∙ g) }

pub member_out : (M : ℕ) (a b : List Span) (xs ys : List ℕ) → IsSpans 0 M a → IsSpans 0 M b → members a ≡ xs → members b ≡ ys → SomeOut a b → (n : ℕ) × (has xs n ≡ true) × (has ys n ≡ false)
member_out M a b xs ys r q e f (n, g, h) = (n, sym (has_within M a xs n r e) ∙ g, sym (has_within M b ys n q f) ∙ h)

-- what is left of a set that loses a member
pub left_of : (old set new : List ℕ) → new ≡ filter (has set) old → (n : ℕ) × (has old n ≡ true) × (has set n ≡ false) → length new < length old
left_of old set new e (n, h, g) = subst (λ l. length l < length old) (sym e) (loses old set n h g)

-- no number of U is between the bounds
pub none_between : (xs : List ℕ) (lo hi : ℤ) → ((n : ℕ) → n ≤ INFINITY → (int_le lo (pos n) && int_le (pos n) hi) ≡ false) → filter (has (between lo hi)) xs ≡ []
none_between xs lo hi f = none_in xs (between lo hi) (λ n. ap (λ l. has l n) (sym (interval_none INFINITY lo hi f) ∙ members_none))

-- one interval of which not all is left
pub left_one : (xs set : List ℕ) (ls : List Span) (r : Narrowed) → members ls ≡ filter (has set) xs → IsSpans 0 INFINITY ls
    → (n : ℕ) × (has xs n ≡ true) × (has set n ≡ false) → IsLeft ls r → IsNarrowed xs set r
left_one xs set ls Same e q o h = absurd h
left_one xs set ls Empty e q o h = sym e ∙ (ap members h ∙ members_none)
left_one xs set ls (Changed new) e q o h = let made : new ≡ filter (has set) xs = h.0 ∙ e in (made, (least_is INFINITY ls new q (sym h.0) h.1).0, left_of xs set new made o)

pub met_spans : (x y : Span) → x.1 ≤ INFINITY → IsSpans 0 INFINITY (meet x y)
met_spans x y h = elim (cases_Bool (leb (max x.0 y.0) (min x.1 y.1))) [
  | inl t ↦ let l = leb-true (max x.0 y.0) (min x.1 y.1) t in rw t (omega arith, l, omega arith, tt)
  | inr t ↦ rw t tt
]

pub met_one : (x y : Span) (low high : ℕ) (new : List ℕ) → low ≡ max x.0 y.0 → high ≡ min x.1 y.1 → low ≤ high → new ≡ members ((low, high) ∷ []) → (new ≡ members (meet x y)) × (1 ≤ length (meet x y))
met_one x y low high new e f l m =
    let t : leb (max x.0 y.0) (min x.1 y.1) ≡ true = grind (arith, nat_tests) in
    let ends : ◌≡◌ {A = Span} (low, high) (max x.0 y.0, min x.1 y.1) = λ i. (e i, f i) in
    rw t (m ∙ ap (λ (s : Span). members (s ∷ [])) ends, omega arith)

pub met_none : (x y : Span) (low high : ℕ) → low ≡ max x.0 y.0 → high ≡ min x.1 y.1 → high < low → meet x y ≡ []
met_none x y low high e f l = let t : leb (max x.0 y.0) (min x.1 y.1) ≡ false = grind (arith, nat_tests) in rw t refl
