-- A set without a number.
use Rattle.std.proofs.Common.{◌≡◌, ℕ, ◌<◌, ◌≤◌, Bool, true, false, ◌&&◌, ◌==◌, not, List, filter, length, refl, ap, sym, ◌∙◌, subst, arith, ℤ, pos, negsuc, ◌⊎◌}
use Rattle.std.proofs.Common.{inl, inr, SFits}
use mir.Syntax.{w64, w128}
use lib.Signed.{lt_z}
use Rattle.std.specs.Ordering.{int_eq}
use Rattle.std.proofs.lemmas.Bool.{true≢false, cases_Bool, ltb-true}
use Rattle.std.proofs.lemmas.Bool.Decides.{Decides-int_eq, nat_tests}
use Rattle.std.specs.Cmp.{both_ways}
use Rattle.fd_language.specs.declared.TheConstants.{INFINITY}
use Rattle.fd_language.specs.Family.{has, universe, IsRising, IsSubset}
use Rattle.fd_language.specs.Range.{least, greatest}
use Rattle.fd_language.proofs.Lemmas.{has-filter, in_universe, has_high, least_low, greatest_high}
use Rattle.domain_ranges.specs.Spans.{Span, IsSpans, members, has_int}
use Rattle.domain_ranges.specs.Narrowing.{all_but}
use Rattle.domain_ranges.proofs.Members.{has_within, filter_inside, members_rising}
use Rattle.domain_ranges.proofs.Images.{has_set, set_same}
use Rattle.domain_ranges.proofs.Inclusion.{left_of}
use Rattle.domain_ranges.proofs.Removal.{but}

pub wider : (z : ℤ) → SFits w64 z → SFits w128 z
wider z h = record { sfits = omega (arith, h.sfits) }

-- a member as a number of U
pub member_number : (xs : List ℕ) (z : ℤ) → IsRising 0 INFINITY xs → has_int xs z ≡ true → (k : ℕ) × (z ≡ pos k) × (k ≤ INFINITY) × (has xs k ≡ true)
member_number xs (pos n) r h = (n, refl, has_high 0 INFINITY xs n r h, h)
member_number xs (negsuc n) r h = absurd (true≢false (sym h))

same_int : (n k : ℕ) → int_eq (pos n) (pos k) ≡ (n == k)
same_int n k = both_ways (int_eq (pos n) (pos k)) (n == k)
    (λ e. let f : pos n ≡ pos k = (Decides-int_eq (pos n) (pos k)).0 e in let g : n ≡ k = cc in grind (arith, nat_tests))
    (λ e. let g : n ≡ k = grind (arith, nat_tests) in (Decides-int_eq (pos n) (pos k)).1 (ap pos g))

other : (xs : List ℕ) (z : ℤ) (n : ℕ) (b : Bool) → has xs n ≡ true → has_int xs z ≡ false → int_eq (pos n) z ≡ b → not b ≡ true
other xs z n false h g e = refl
other xs z n true h g e = let f : pos n ≡ z = (Decides-int_eq (pos n) z).0 e in absurd (true≢false (sym h ∙ (ap (has_int xs) f ∙ g)))

-- a set keeps all its members where the number isn't one
pub keeps_all : (xs : List ℕ) (z : ℤ) → IsRising 0 INFINITY xs → has_int xs z ≡ false → IsSubset xs (all_but z)
keeps_all xs z r h = record {
  each = λ n g. has-filter (λ k. not (int_eq (pos k) z)) (universe INFINITY) n (in_universe INFINITY n (has_high 0 INFINITY xs n r g)) (other xs z n (int_eq (pos n) z) g h refl);
}

-- what is left of one without a member
pub excluded : (ss : List Span) (xs : List ℕ) (z : ℤ) (k : ℕ) → IsSpans 0 INFINITY ss → members ss ≡ xs → z ≡ pos k → filter (but ss k) (universe INFINITY) ≡ filter (has (all_but z)) xs
excluded ss xs z k r e f =
    set_same INFINITY (but ss k) (λ n. has xs n && has (all_but z) n) (λ n l.
    ap (λ b. b && not (n == k)) (has_within INFINITY ss xs n r e)
    ∙ ap (λ b. has xs n && b) (sym (has_set INFINITY (λ m. not (int_eq (pos m) z)) n l ∙ (ap (λ y. not (int_eq (pos n) y)) f ∙ ap not (same_int n k)))))
    ∙ filter_inside INFINITY xs (all_but z) (subst (IsRising 0 INFINITY) e (members_rising 0 INFINITY ss r))

pub fewer_left : (xs new : List ℕ) (z : ℤ) (k : ℕ) → new ≡ filter (has (all_but z)) xs → z ≡ pos k → k ≤ INFINITY → has xs k ≡ true → length new < length xs
fewer_left xs new z k e f l h = left_of xs (all_but z) new e (
  k,
  h,
  has_set INFINITY (λ m. not (int_eq (pos m) z)) k l ∙ ap not ((Decides-int_eq (pos k) z).1 (sym f)),
)

-- an integer below the least or above the greatest member is no member
pub no_member : (xs : List ℕ) (z : ℤ) → IsRising 0 INFINITY xs → (lt_z z (pos (least xs)) ≡ true) ⊎ (lt_z (pos (greatest xs)) z ≡ true) → has_int xs z ≡ false
no_member xs (negsuc n) r h = refl
no_member xs (pos n) r h = elim (cases_Bool (has xs n)) [
  | inl t ↦ absurd (outside n (least xs) (greatest xs) (least_low 0 INFINITY n xs r t) (greatest_high 0 INFINITY n xs r t) h)
  | inr f ↦ f
] where
  outside : (n low high : ℕ) → low ≤ n → n ≤ high → (lt_z (pos n) (pos low) ≡ true) ⊎ (lt_z (pos high) (pos n) ≡ true) → ⊥
  outside n low high a b (inl g) = let k = ltb-true n low g in omega arith
  outside n low high a b (inr g) = let k = ltb-true high n g in omega arith
