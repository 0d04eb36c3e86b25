-- A member of a set, and the others.
use Rattle.std.proofs.Common.{◌≡◌, ℕ, suc, ◌+◌, ◌-◌, ◌<◌, ◌≤◌, Bool, true, false, ◌&&◌, ◌==◌, not, List, [], ◌∷◌, filter, refl, ap, sym, ◌∙◌, subst, inl, inr}
use Rattle.std.proofs.Common.{arith, ℤ, pos, eqb-true, eq-eqb}
use Rattle.std.specs.Ordering.{int_eq}
use Rattle.std.proofs.lemmas.Bool.{true≢false, cases_Bool, eqb-false, or_left, or_right, or_cases}
use Rattle.std.proofs.lemmas.Bool.Decides.{Decides-int_eq, nat_tests}
use Rattle.fd_language.specs.declared.TheConstants.{INFINITY}
use Rattle.fd_language.specs.Family.{has, universe, IsRising}
use Rattle.fd_language.specs.Range.{least, greatest, is_none_left}
use Rattle.fd_language.proofs.Lemmas.{has-filter, has-filter_back, has_high, least_low, least_in, greatest_in, greatest_high, not_empty}
use Rattle.domain_ranges.specs.Spans.{Span, within, IsSpans, AreWithEnds, members}
use Rattle.domain_ranges.specs.Narrowing.{all_but, IsInterval}
use Rattle.domain_ranges.proofs.Members.{has_members, members_rising, members_is}
use Rattle.domain_ranges.proofs.Images.{has_set}
use Rattle.domain_ranges.proofs.Removal.{but}
use Rattle.domain_ranges.proofs.ExcludedNumbers.{excluded}
use Rattle.domain_ranges.proofs.Spans.{in_head}
use Rattle.domain_ranges.proofs.Parts.{ordered}

-- an interval of two ordered numbers has one
pub span_some : (s : Span) → s.0 ≤ s.1 → s.1 ≤ INFINITY → is_none_left (members (s ∷ [])) ≡ false
span_some s h g = not_empty (members (s ∷ [])) s.0 (has_members 0 INFINITY (s ∷ []) s.0 (omega arith, h, g, tt) ∙ in_head s [] s.0 (omega arith) h)

-- a set that is an interval isn't empty
pub interval_some : (xs : List ℕ) → IsInterval xs → is_none_left xs ≡ false
interval_some [] i = absurd (true≢false (ap is_none_left i ∙ span_some (0, 0) (omega arith) (omega arith)))
interval_some (x ∷ xs) i = refl

-- another number is among all but one
other_left : (n k : ℕ) → n ≤ INFINITY → (n ≡ k → ⊥) → has (all_but (pos k)) n ≡ true
other_left n k l h = has_set INFINITY (λ m. not (int_eq (pos m) (pos k))) n l ∙ ap not (apart (int_eq (pos n) (pos k)) refl) where
  apart : (b : Bool) → int_eq (pos n) (pos k) ≡ b → b ≡ false
  apart false e = refl
  apart true e = let f : pos n ≡ pos k = (Decides-int_eq (pos n) (pos k)).0 e in let g : n ≡ k = cc in absurd (h g)

-- the only member left out
pub none_but : (xs : List ℕ) (z : ℤ) (n : ℕ) → z ≡ pos n → xs ≡ n ∷ [] → filter (has (all_but z)) xs ≡ []
none_but xs z n e f = subst (λ l. filter (has (all_but z)) l ≡ []) (sym f) (rw gone refl) where
  gone : has (all_but z) n ≡ false
  gone = outside (has (all_but z) n) refl where
    outside : (b : Bool) → has (all_but z) n ≡ b → b ≡ false
    outside false g = refl
    outside true g =
        let h = (has-filter_back (λ k. not (int_eq (pos k) z)) (universe INFINITY) n g).1 in
        absurd (true≢false (sym h ∙ ap not ((Decides-int_eq (pos n) z).1 (sym e))))

-- a set of several members keeps one
pub some_left : (xs : List ℕ) (k n : ℕ) → IsRising 0 INFINITY xs → has xs n ≡ true → least xs < greatest xs → is_none_left (filter (has (all_but (pos k))) xs) ≡ false
some_left xs k n r m h =
    let some = not_empty xs n m in
    let low = least_in xs some in
    let high = greatest_in xs some in
    elim (cases_Bool (least xs == k)) [
      | inl t ↦ let e : least xs ≡ k = eqb-true (least xs) k t in
          not_empty _ (greatest xs) (has-filter (has (all_but (pos k))) xs (greatest xs) high
          (other_left (greatest xs) k (has_high 0 INFINITY xs (greatest xs) r high) (λ f. absurd (omega arith))))
      | inr t ↦ not_empty _ (least xs) (has-filter (has (all_but (pos k))) xs (least xs) low (other_left (least xs) k (has_high 0 INFINITY xs (least xs) r low) (eqb-false (least xs) k t)))
    ]

-- the ends that are held, and a number
module _ (ss : List Span) (xs : List ℕ) (ends : Span) (held : AreWithEnds ss ends) (same : members ss ≡ xs) where
  pub rises : IsRising 0 INFINITY xs
  rises = subst (IsRising 0 INFINITY) same (members_rising 0 INFINITY ss held.spans)

  pub first : ends.0 ≡ least xs
  first = held.least ∙ ap least same

  pub last : ends.1 ≡ greatest xs
  last = held.greatest ∙ ap greatest same

  pub several : (k : ℕ) → has xs k ≡ true → (ends.0 ≡ ends.1 → ⊥) → least xs < greatest xs
  several k m h = let a = least_low 0 INFINITY k xs rises m in let b = greatest_high 0 INFINITY k xs rises m in grind (arith, h, first, last, a, b)

  pub alone : (k : ℕ) → has xs k ≡ true → ends.0 ≡ ends.1 → xs ≡ k ∷ []
  alone k m e = only xs k rises m (let a = first in let b = last in omega arith) where
    only : (ys : List ℕ) (n : ℕ) → IsRising 0 INFINITY ys → has ys n ≡ true → least ys ≡ greatest ys → ys ≡ n ∷ []
    only [] n r m e = absurd (true≢false (sym m))
    only (y ∷ []) n r m e = elim (or_cases (y == n) false m) [ inl f ↦ ap (λ i. i ∷ []) (eqb-true y n f) | inr f ↦ absurd (true≢false (sym f)) ]
    only (y ∷ z ∷ zs) n r m e =
        let ys : List ℕ = y ∷ z ∷ zs in
        let two : has ys z ≡ true = or_right (y == z) (has (z ∷ zs) z) (or_left (z == z) (has zs z) (eq-eqb z z refl)) in
        let low = least_low 0 INFINITY y ys r (or_left (y == y) (has (z ∷ zs) y) (eq-eqb y y refl)) in
        let high = greatest_high 0 INFINITY z ys r two in
        let less : suc y ≤ z = r.2.0 in
        absurd (omega arith)

  -- a number between the ends of an interval
  pub interval_has : (k : ℕ) → IsInterval xs → ends.0 ≤ k → k ≤ ends.1 → has xs k ≡ true
  interval_has k i h g =
      let a = first in
      let b = last in
      ap (λ l. has l k) i ∙ has_members 0 INFINITY ((least xs, greatest xs) ∷ []) k (ordered xs rises) ∙ in_head (least xs, greatest xs) [] k (omega arith) (omega arith)

  pub ends_ordered : (ends.0 ≤ ends.1) × (ends.1 ≤ INFINITY)
  ends_ordered = let r = ordered xs rises in let a = first in let b = last in (omega (arith, r.1), omega (arith, r.2))

  -- an interval is the one between the ends that are held
  pub ends_all : IsInterval xs → members ((ends.0, ends.1) ∷ []) ≡ xs
  ends_all i = (let own : ◌≡◌ {A = Span} (ends.0, ends.1) (least xs, greatest xs) = λ j. (first j, last j) in ap (λ (q : Span). members (q ∷ [])) own) ∙ sym i

  -- a member of an interval of several numbers
  pub record Held (k : ℕ) : Type 0 where
    pub low : ends.0 ≤ k
    pub high : k ≤ ends.1
    pub limit : ends.1 ≤ INFINITY
    pub more : ends.0 < ends.1
    pub is : members ((ends.0, ends.1) ∷ []) ≡ xs

  pub held_in : (k : ℕ) → IsInterval xs → has xs k ≡ true → least xs < greatest xs → Held k
  held_in k i m l =
      let a = first in
      let b = last in
      record {
        low = omega (arith, least_low 0 INFINITY k xs rises m);
        high = omega (arith, greatest_high 0 INFINITY k xs rises m);
        limit = omega (arith, has_high 0 INFINITY xs (greatest xs) rises (greatest_in xs (not_empty xs k m)));
        more = omega arith;
        is = ends_all i;
      }

-- a set whose numbers are those of an interval but one
module _ (xs : List ℕ) (a b k : ℕ) (low : a ≤ k) (high : k ≤ b) (limit : b ≤ INFINITY) (is : members ((a, b) ∷ []) ≡ xs) where
  whole : IsSpans 0 INFINITY ((a, b) ∷ [])
  whole = (omega arith, omega arith, limit, tt)

  left_by : (out : List Span) → IsSpans 0 INFINITY out → ((n : ℕ) → within out n ≡ (within ((a, b) ∷ []) n && not (n == k))) → members out ≡ filter (has (all_but (pos k))) xs
  left_by out r h = members_is INFINITY out (but ((a, b) ∷ []) k) r (λ n l. h n) ∙ excluded ((a, b) ∷ []) xs (pos k) k whole is refl

  pub without_first : k ≡ a → a < b → members ((a + 1, b) ∷ []) ≡ filter (has (all_but (pos k))) xs
  without_first e l = left_by ((a + 1, b) ∷ []) (omega arith, omega arith, limit, tt) (λ n. grind (arith, nat_tests))

  pub without_last : k ≡ b → a < b → members ((a, b - 1) ∷ []) ≡ filter (has (all_but (pos k))) xs
  without_last e l = left_by ((a, b - 1) ∷ []) (omega arith, omega arith, omega arith, tt) (λ n. grind (arith, nat_tests))

  pub without_inner : (k ≡ a → ⊥) → (k ≡ b → ⊥) → members ((a, k - 1) ∷ (k + 1, b) ∷ []) ≡ filter (has (all_but (pos k))) xs
  without_inner e f =
      let g : a < k = grind (arith, e) in
      let h : k < b = grind (arith, f) in
      left_by ((a, k - 1) ∷ (k + 1, b) ∷ []) (omega arith, omega arith, omega arith, (omega arith, omega arith, limit, tt)) (λ n. grind (arith, nat_tests))
