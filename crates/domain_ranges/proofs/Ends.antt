-- A set and its ends.
use Rattle.std.proofs.Common.{◌≡◌, ℕ, ◌+◌, ◌-◌, ◌<◌, ◌≤◌, ◌⊎◌, inl, inr, Bool, true, false, not, ◌==◌, List, [], ◌∷◌, refl, sym, ◌∙◌, ap, subst, arith, length}
use Rattle.std.proofs.Common.{get_or}
use Rattle.std.proofs.lemmas.Bool.{true≢false}
use Rattle.std.proofs.lemmas.Bool.Decides.{nat_tests}
use Rattle.fd_language.specs.declared.TheConstants.{INFINITY}
use Rattle.fd_language.specs.Family.{has, IsRising, IsSubset}
use Rattle.fd_language.specs.Range.{least, greatest, is_none_left}
use Rattle.fd_language.proofs.Lemmas.{least_low, least_in, greatest_in, greatest_high}
use Rattle.domain_ranges.specs.Spans.{Span, within, IsSpans, AreWithEnds, members}
use Rattle.domain_ranges.proofs.Spans.{in_head}
use Rattle.domain_ranges.proofs.PartialSets.{out_low, out_high}
use Rattle.domain_ranges.proofs.Members.{has_members, members_rising, least_is, greatest_is, none_is}

-- some member of the one isn't in the other
abbrev pub HasOther : List ℕ → List ℕ → Type 0
HasOther xs ys = (n : ℕ) × (has xs n ≡ true) × (has ys n ≡ false)

-- no interval has the ends 0 and 0
pub no_ends : (ss : List Span) → IsSpans 0 INFINITY ss → length ss < 1 → AreWithEnds ss (0, 0)
no_ends ss r h = let e = none_is ss (members ss) refl h in record { spans = r; least = sym (ap least e); greatest = sym (ap greatest e) }

pub none_ends : (ss : List Span) → ss ≡ [] → AreWithEnds ss (0, 0)
none_ends ss e = subst (λ l. AreWithEnds l (0, 0)) (sym e) (no_ends [] tt (omega arith))

-- the first and the last number of some intervals
pub some_ends : (ss : List Span) (a b : ℕ) → IsSpans 0 INFINITY ss → 1 ≤ length ss → a ≡ (get_or ss 0 (0, 0)).0 → b ≡ (get_or ss (length ss - 1) (0, 0)).1 → AreWithEnds ss (a, b)
some_ends ss a b r h e f = record { spans = r; least = e ∙ (least_is INFINITY ss (members ss) r refl h).1; greatest = f ∙ (greatest_is INFINITY ss (members ss) r refl h).1 }

-- one interval has its own ends
pub own_ends : (s : Span) (ss : List Span) → s.0 ≤ s.1 → s.1 ≤ INFINITY → ss ≡ s ∷ [] → AreWithEnds ss s
own_ends s ss h g e = subst (λ l. AreWithEnds l s) (sym e) (some_ends (s ∷ []) s.0 s.1 (omega arith, h, g, tt) (omega arith) refl refl)

-- two intervals that don't touch have the first one's least and the second one's greatest number
pub pair_ends : (s t : Span) (ss : List Span) → s.0 ≤ s.1 → s.1 + 2 ≤ t.0 → t.0 ≤ t.1 → t.1 ≤ INFINITY → ss ≡ s ∷ t ∷ [] → AreWithEnds ss (s.0, t.1)
pair_ends s t ss h a g l e = subst (λ q. AreWithEnds q (s.0, t.1)) (sym e) (some_ends (s ∷ t ∷ []) s.0 t.1 (omega arith, h, omega arith, (a, g, l, tt)) (omega arith) refl refl)

some_there : (b : Bool) (n : ℕ) → b ≡ (n == 0) → not b ≡ true → 1 ≤ n
some_there b n e h = grind (arith, nat_tests, e, h)

none_there : (b : Bool) (n : ℕ) → b ≡ (n == 0) → not b ≡ false → n < 1
none_there b n e h = grind (arith, nat_tests, e, h)

-- no member is outside of another set
pub none_inside : (ss : List Span) (xs ys : List ℕ) (empty : Bool) → members ss ≡ xs → empty ≡ (length ss == 0) → not empty ≡ false → IsSubset xs ys
none_inside ss xs ys empty e f h = let g = none_is ss xs e (none_there empty (length ss) f h) in record { each = λ n m. absurd (true≢false (sym m ∙ ap (λ l. has l n) g)) }

module _ (s : Span) (order : s.0 ≤ s.1) (high : s.1 ≤ INFINITY) where
  in_one : (n : ℕ) → has (members (s ∷ [])) n ≡ within (s ∷ []) n
  in_one n = has_members 0 INFINITY (s ∷ []) n (omega arith, order, high, tt)

  -- a set whose ends are in an interval is in it
  pub inside_ends : (xs : List ℕ) → IsRising 0 INFINITY xs → s.0 ≤ least xs → greatest xs ≤ s.1 → IsSubset xs (members (s ∷ []))
  inside_ends xs r h g = record { each = λ n m. in_one n ∙ in_head s [] n (omega (arith, least_low 0 INFINITY n xs r m)) (omega (arith, greatest_high 0 INFINITY n xs r m)) }

  -- an end that is not in an interval is a member that isn't
  pub below_ends : (xs : List ℕ) → is_none_left xs ≡ false → least xs < s.0 → (n : ℕ) × (has xs n ≡ true) × (has (members (s ∷ [])) n ≡ false)
  below_ends xs h g = (least xs, least_in xs h, in_one (least xs) ∙ out_low s (least xs) g)

  pub above_ends : (xs : List ℕ) → is_none_left xs ≡ false → s.1 < greatest xs → (n : ℕ) × (has xs n ≡ true) × (has (members (s ∷ [])) n ≡ false)
  above_ends xs h g = (greatest xs, greatest_in xs h, in_one (greatest xs) ∙ out_high s (greatest xs) g)

  -- the same of the ends that are held beside the intervals
  module _ (ss : List Span) (xs : List ℕ) (ends : ℕ × ℕ) (held : AreWithEnds ss ends) (same : members ss ≡ xs) where
    pub ends_inside : s.0 ≤ ends.0 → ends.1 ≤ s.1 → IsSubset xs (members (s ∷ []))
    ends_inside h g = subst (λ l. IsSubset l (members (s ∷ []))) same (inside_ends (members ss) (members_rising 0 INFINITY ss held.spans) (omega (arith, held.least)) (omega (arith, held.greatest)))

    pub ends_outside : (qs : List Span) (empty : Bool) → IsSpans 0 INFINITY qs → members qs ≡ xs → empty ≡ (length qs == 0) → not empty ≡ true
        → ((s.0 ≤ ends.0) × (s.1 < ends.1)) ⊎ (ends.0 < s.0) → HasOther xs (members (s ∷ []))
    ends_outside qs empty r e f t k =
        let some = (least_is INFINITY qs xs r e (some_there empty (length qs) f t)).0 in
        let least : ends.0 ≡ least xs = held.least ∙ ap least same in
        let greatest : ends.1 ≡ greatest xs = held.greatest ∙ ap greatest same in
        elim k [ inl h ↦ above_ends xs some (omega (arith, h.1)) | inr h ↦ below_ends xs some (omega arith) ]
