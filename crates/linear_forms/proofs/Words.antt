-- Integers of the language have 64 bits.
use Rattle.std.proofs.Common.{◌≡◌, subst, Bool, true, false, not, ap, refl, ◌+ℤ◌, ◌*ℤ◌, ℤ, Option, None, pos, negsuc, neg_ℤ, ◌-ℤ◌, sym, ◌∙◌, arith, FitsSigned, to_z, of_z}
use Rattle.std.specs.Int.{w64}
use Rattle.std.proofs.lemmas.Int.{ints, to_z-of_z, fits_signed_from_abs}
use Rattle.fd_model.proofs.Lemmas.{integer_size}
use Rattle.fd_model.specs.Linear.{in_integers}
use Rattle.linear_forms.specs.Shares.{IsWithin, sign_of}
use Rattle.linear_forms.proofs.Signs.{neg_inside}

-- they fit the width
pub integer_fits : (z : ℤ) → in_integers z ≡ true → FitsSigned w64 z
integer_fits (pos n) h = let k = integer_size (pos n) h in fits_signed_from_abs w64 (pos n) (omega arith)
integer_fits (negsuc n) h = let k = integer_size (negsuc n) h in fits_signed_from_abs w64 (negsuc n) (omega arith)

-- an integer of the language that is passed on
pub passed : (z y : ℤ) → (y ≡ z) × (in_integers z ≡ true) → to_z w64 (of_z w64 y) ≡ z
passed z y h = (λ i. to_z w64 (of_z w64 (h.0 i))) ∙ to_z-of_z w64 z (integer_fits z h.1)

-- a sum and a product of integers that are passed on
pub passed_sum : (a b y : ℤ) → FitsSigned w64 a → FitsSigned w64 b → (y ≡ to_z w64 (of_z w64 a) +ℤ to_z w64 (of_z w64 b)) × (in_integers (to_z w64 (of_z w64 a) +ℤ to_z w64 (of_z w64 b)) ≡ true)
    → (to_z w64 (of_z w64 y) ≡ a +ℤ b) × (in_integers (a +ℤ b) ≡ true)
passed_sum a b y f g h =
    let same : to_z w64 (of_z w64 a) +ℤ to_z w64 (of_z w64 b) ≡ a +ℤ b = λ i. to_z-of_z w64 a f i +ℤ to_z-of_z w64 b g i in
    let inside : in_integers (a +ℤ b) ≡ true = ap in_integers (sym same) ∙ h.1 in
    (passed (a +ℤ b) y (h.0 ∙ same, inside), inside)

pub passed_product : (a b y : ℤ) → FitsSigned w64 a → FitsSigned w64 b → (y ≡ to_z w64 (of_z w64 a) *ℤ to_z w64 (of_z w64 b)) × (in_integers (to_z w64 (of_z w64 a) *ℤ to_z w64 (of_z w64 b)) ≡ true)
    → (to_z w64 (of_z w64 y) ≡ a *ℤ b) × (in_integers (a *ℤ b) ≡ true)
passed_product a b y f g h =
    let same : to_z w64 (of_z w64 a) *ℤ to_z w64 (of_z w64 b) ≡ a *ℤ b = λ i. to_z-of_z w64 a f i *ℤ to_z-of_z w64 b g i in
    let inside : in_integers (a *ℤ b) ≡ true = ap in_integers (sym same) ∙ h.1 in
    (passed (a *ℤ b) y (h.0 ∙ same, inside), inside)

-- the same where the product is no integer of the language
pub over_product : (a b : ℤ) (r : Option ℤ) → FitsSigned w64 a → FitsSigned w64 b → IsWithin (to_z w64 (of_z w64 a) *ℤ to_z w64 (of_z w64 b)) r → r ≡ None → in_integers (a *ℤ b) ≡ false
over_product a b r f g h e =
    let over = subst (IsWithin (to_z w64 (of_z w64 a) *ℤ to_z w64 (of_z w64 b))) e h in
    (λ i. in_integers (sym (to_z-of_z w64 a f) i *ℤ sym (to_z-of_z w64 b g) i)) ∙ over

pub not_true : (b : Bool) → true ≡ not b → b ≡ false
not_true true h = absurd (cc)
not_true false h = refl

pub not_false : (b : Bool) → false ≡ not b → b ≡ true
not_false true h = refl
not_false false h = absurd (cc)

-- a sign that is passed on
pub sign_fits : (n : Bool) (z : ℤ) → z ≡ sign_of n → FitsSigned w64 z
sign_fits n z e = subst (FitsSigned w64) (sym e) (by n) where
  by : (n : Bool) → FitsSigned w64 (sign_of n)
  by true = integer_fits (negsuc 0) refl
  by false = integer_fits (pos 1) refl

pub passed_sign : (n : Bool) (z : ℤ) → z ≡ sign_of n → to_z w64 (of_z w64 z) ≡ sign_of n
passed_sign n z e = to_z-of_z w64 z (sign_fits n z e) ∙ e

-- an integer that is negated and passed on
pub passed_negation : (z : ℤ) → in_integers z ≡ true → to_z w64 (of_z w64 (pos 0 -ℤ to_z w64 (of_z w64 z))) ≡ neg_ℤ z
passed_negation z h =
    let same : pos 0 -ℤ to_z w64 (of_z w64 z) ≡ neg_ℤ z = let e = to_z-of_z w64 z (integer_fits z h) in omega (arith, ints) in
    (λ i. to_z w64 (of_z w64 (same i))) ∙ to_z-of_z w64 (neg_ℤ z) (integer_fits (neg_ℤ z) (neg_inside z h))
