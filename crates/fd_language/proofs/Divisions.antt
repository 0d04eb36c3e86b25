-- Quotients of integers, by the division that the machine has.
use Rattle.std.proofs.Common.{arith, ◌≡◌, ◌∙◌, ap, ℕ, ℤ, pos, negsuc, suc, zero, neg_ℤ, ◌-ℤ◌, ◌≤ℤ◌, refl, of_z}
use Rattle.std.proofs.Math.IntN.{+ℤ_idl}
use Rattle.std.proofs.lemmas.Int.{ints}
use mir.Syntax.{w128}
use Rattle.std.specs.Int.{int_div_euclid}
use Rattle.fd_language.specs.declared.TheConstants.{INFINITY}
use Rattle.fd_language.specs.Range.{div_up, down_by}

down_is : (z : ℤ) (n : ℕ) → int_div_euclid z (pos (suc n)) ≡ down_by z n
down_is (pos a) n = refl
down_is (negsuc a) n = refl

pub up_is : (a b : ℤ) → pos 1 ≤ℤ b → pos 0 -ℤ int_div_euclid (pos 0 -ℤ a) b ≡ div_up INFINITY a b
up_is a (pos (suc n)) h = +ℤ_idl (neg_ℤ (int_div_euclid (pos 0 -ℤ a) (pos (suc n)))) ∙ ap neg_ℤ (ap (λ z. int_div_euclid z (pos (suc n))) (+ℤ_idl (neg_ℤ a)) ∙ down_is (neg_ℤ a) n)
up_is a (pos zero) h = absurd (omega (arith, ints, h))
up_is a (negsuc n) h = absurd (omega (arith, ints, h))

pub above_zero : (b : ℤ) → pos 0 ≤ℤ b → (of_z w128 b ≡ 0 → ⊥) → pos 1 ≤ℤ b
above_zero (pos zero) h e = absurd (e refl)
above_zero (pos (suc n)) h e = omega (arith, ints)
above_zero (negsuc n) h e = absurd (omega (arith, ints, h))
