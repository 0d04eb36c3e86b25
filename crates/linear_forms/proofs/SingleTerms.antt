-- A variable and an integer alone.
use Rattle.std.proofs.Common.{◌≡◌, ℕ, suc, ◌≤◌, Bool, true, false, ℤ, pos, negsuc, ◌*◌, neg_ℤ, ◌*ℤ◌, [], ◌∷◌, Ok, Err, refl, sym, ap, subst, ◌∙◌, arith}
use Rattle.std.specs.Prelude.{nat_eq, ◌&&◌}
use Rattle.std.specs.List.{IsDistinct}
use Rattle.std.specs.Map.{keys_of}
use Rattle.fd_model.specs.declared.kinds.QueryFault.TheVariants.{Evaluation}
use Rattle.fd_model.specs.Linear as linear
use Rattle.fd_model.specs.Linear.{in_integers, is_within, checked}
use Rattle.linear_forms.specs.declared.sums.Sum.{Sum}
use Rattle.linear_forms.specs.Shares.{share_at, sign_of}
use Rattle.linear_forms.specs.Sums.{IsSum, signed}
use Rattle.linear_forms.proofs.Signs.{one_inside, outside_checked, within_checked}

pub variable_is : (n : Bool) (x : ℕ) → signed n (checked (record { products = (x, pos 1) ∷ []; constant = pos 0 })) ≡ Ok (record { products = (x, sign_of n) ∷ []; constant = pos 0 })
variable_is true x = refl
variable_is false x = refl

pub variable_kept : (t : Sum) (n : Bool) (x first : ℕ) → t.terms.entries ≡ (x, record { coefficient = sign_of n; first = first }) ∷ []
    → IsDistinct nat_eq (keys_of t.terms.entries) → t.constant ≡ pos 0
    → (s : linear.Sum) × (signed n (checked (record { products = (x, pos 1) ∷ []; constant = pos 0 })) ≡ Ok s) × IsSum t s first (suc first)
variable_kept t n x first e d z =
    let low : first ≤ first = omega arith in
    let high : suc first ≤ suc first = omega arith in (
      record { products = (x, sign_of n) ∷ []; constant = pos 0 },
      variable_is n x,
      record {
        order = (x, record { coefficient = sign_of n; first = first }) ∷ [];
        same = λ y. ap (λ es. share_at es y) e;
        unique = d;
        distinct = subst (λ es. IsDistinct nat_eq (keys_of es)) e d;
        rise = (low, high);
        products = refl;
        constant = z;
        within = within n;
      },
    )
  where
    within : (n : Bool) → is_within (record { products = (x, sign_of n) ∷ []; constant = pos 0 }) ≡ true
    within true = refl
    within false = refl

times_one : (z : ℤ) → pos 1 *ℤ z ≡ z
times_one (pos n) = ap pos (omega arith)
times_one (negsuc n) = let e : 1 * suc n ≡ suc n = omega arith in ap (λ k. neg_ℤ (pos k)) e

integer_within : (z : ℤ) (b : Bool) → in_integers z ≡ b → is_within (record { products = []; constant = z }) ≡ b
integer_within z true h = ap (λ b. b && true) h
integer_within z false h = ap (λ b. b && true) h

integer_signed : (n : Bool) (z : ℤ) → in_integers (sign_of n *ℤ z) ≡ in_integers z
integer_signed true z = one_inside z
integer_signed false z = ap in_integers (times_one z)

integer_is : (n : Bool) (z : ℤ) → in_integers z ≡ true → signed n (checked (record { products = []; constant = z })) ≡ Ok (record { products = []; constant = sign_of n *ℤ z })
integer_is true z h = ap (signed true) (within_checked (record { products = []; constant = z }) (integer_within z true h))
integer_is false z h = within_checked (record { products = []; constant = z }) (integer_within z true h) ∙ (λ i. Ok (record { products = []; constant = sym (times_one z) i }))

pub integer_kept : (t : Sum) (n : Bool) (z : ℤ) (m : ℕ) → t.terms.entries ≡ [] → IsDistinct nat_eq (keys_of t.terms.entries) → t.constant ≡ sign_of n *ℤ z → in_integers (sign_of n *ℤ z) ≡ true
    → (s : linear.Sum) × (signed n (checked (record { products = []; constant = z })) ≡ Ok s) × IsSum t s m m
integer_kept t n z m e d k h =
    let level : m ≤ m = omega arith in (
      record { products = []; constant = sign_of n *ℤ z },
      integer_is n z (sym (integer_signed n z) ∙ h),
      record {
        order = [];
        same = λ y. ap (λ es. share_at es y) e;
        unique = d;
        distinct = subst (λ es. IsDistinct nat_eq (keys_of es)) e d;
        rise = level;
        products = refl;
        constant = k;
        within = integer_within (sign_of n *ℤ z) true h;
      },
    )

pub integer_over : (n : Bool) (z : ℤ) → in_integers (sign_of n *ℤ z) ≡ false → signed n (checked (record { products = []; constant = z })) ≡ Err Evaluation
integer_over n z h = by n (outside_checked (record { products = []; constant = z }) (integer_within z false (sym (integer_signed n z) ∙ h))) where
  by : (n : Bool) → checked (record { products = []; constant = z }) ≡ Err Evaluation → signed n (checked (record { products = []; constant = z })) ≡ Err Evaluation
  by true e = ap (signed true) e
  by false e = e
