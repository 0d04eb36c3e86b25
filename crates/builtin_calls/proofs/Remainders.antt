-- The remainder with the divisor's sign, from the one with the dividend's.
use Rattle.std.proofs.Common.{◌≡◌, ℕ, zero, suc, ◌-◌, ◌%◌, ◌<◌, ℤ, pos, negsuc, neg_ℤ, ◌+ℤ◌, Bool, true, false, not, refl, ap, sym, ◌∙◌, subst, arith, ◌⊎◌, inl}
use Rattle.std.proofs.Common.{inr}
use mathlib.Core.Bool.{beq}
use lib.Signed.{lt_z, rem_z}
use Rattle.std.proofs.Math.Nat.{suc-mod, zero-mod, mod_self, mod-eq_of_lt, mod-lt}
use Rattle.std.proofs.lemmas.Int.{ints, to_z-of_z}
use Rattle.std.proofs.lemmas.Bool.{true≢false, le-ltb}
use mir.Val.{SFits}
use Rattle.std.proofs.Common.{w64, to_z, of_z}
use Rattle.fd_model.specs.Arithmetic.{modulo}

-- the remainder and the divisor have different signs, or one of them is 0
abbrev pub differ : ℤ → ℤ → Bool
differ rest right = not (beq (lt_z rest (pos 0)) (lt_z right (pos 0)))

-- a number that fits is read as it was written
pub read_back : (z : ℤ) → SFits w64 z → to_z w64 (of_z w64 z) ≡ z
read_back z f = to_z-of_z w64 z f

pos_sign : (a : ℕ) → lt_z (pos a) (pos 0) ≡ false
pos_sign a = le-ltb a 0 (omega arith)

pos_pos : (a b : ℕ) → differ (pos a) (pos b) ≡ false
pos_pos a b = ap (λ x. not (beq x (lt_z (pos b) (pos 0)))) (pos_sign a) ∙ ap (λ x. not (beq false x)) (pos_sign b)

pos_neg : (a b : ℕ) → differ (pos a) (negsuc b) ≡ true
pos_neg a b = ap (λ x. not (beq x true)) (pos_sign a)

neg_pos : (a b : ℕ) → differ (negsuc a) (pos b) ≡ true
neg_pos a b = ap (λ x. not (beq true x)) (pos_sign b)

-- a sum of two numbers with different signs fits where they do
pub sum_fits : (a b : ℤ) → SFits w64 a → SFits w64 b → differ a b ≡ true → SFits w64 (a +ℤ b)
sum_fits (pos a) (pos b) f g d = absurd (true≢false (sym d ∙ pos_pos a b))
sum_fits (pos a) (negsuc b) f g d = omega (arith, ints)
sum_fits (negsuc a) (pos b) f g d = omega (arith, ints)
sum_fits (negsuc a) (negsuc b) f g d = absurd (true≢false (sym d))

-- the remainder of the next number
Next : ℕ → ℕ → ℕ → Type 0
Next q n b = ((n ≡ 0) × (suc q ≡ b)) ⊎ ((n ≡ suc q) × (suc q < b))

next_rest : (a b : ℕ) → 0 < b → Next (a % b) (suc a % b) b
unfolding Next
next_rest a b p = go (nat_cases (suc (a % b)) b (let h = mod-lt a p in omega arith))
  where
    nat_cases : (x y : ℕ) → x < suc y → (x ≡ y) ⊎ (x < y)
    nat_cases zero zero l = inl refl
    nat_cases zero (suc y) l = inr (omega arith)
    nat_cases (suc x) zero l = absurd (omega arith)
    nat_cases (suc x) (suc y) l = elim (nat_cases x y (omega arith)) [ inl e ↦ inl (ap suc e) | inr h ↦ inr (omega arith) ]

    go : (suc (a % b) ≡ b) ⊎ (suc (a % b) < b) → ((suc a % b ≡ 0) × (suc (a % b) ≡ b)) ⊎ ((suc a % b ≡ suc (a % b)) × (suc (a % b) < b))
    go (inl e) = inl (suc-mod a b ∙ ap (λ x. x % b) e ∙ mod_self b, e)
    go (inr l) = inr (suc-mod a b ∙ mod-eq_of_lt l, l)

-- the remainder as it stands, and moved by the divisor
record IsModulo (rest right m : ℤ) : Type 0 where
  pub stays : (rest ≡ pos 0) ⊎ (differ rest right ≡ false) → rest ≡ m
  pub moves : (rest ≡ pos 0 → ⊥) → differ rest right ≡ true → rest +ℤ right ≡ m

same_sign : (rest right m : ℤ) → rest ≡ m → differ rest right ≡ false → IsModulo rest right m
same_sign rest right m e s = record { stays = λ h. e; moves = λ n d. absurd (true≢false (sym d ∙ s)) }

nothing_left : (rest right m : ℤ) → rest ≡ pos 0 → m ≡ pos 0 → IsModulo rest right m
nothing_left rest right m e s = record { stays = λ h. e ∙ sym s; moves = λ n d. absurd (n e) }

other_sign : (rest right m : ℤ) → (rest ≡ pos 0 → ⊥) → differ rest right ≡ true → rest +ℤ right ≡ m → IsModulo rest right m
other_sign rest right m n d e = record { stays = λ h. absurd (elim h [ inl z ↦ n z | inr s ↦ true≢false (sym d ∙ s) ]); moves = λ x y. e }

below_zero : (q n b : ℕ) → Next q n b → IsModulo (neg_ℤ (pos n)) (pos b) (pos (b - 1 - q))
unfolding Next
below_zero q n b (inl h) = nothing_left (neg_ℤ (pos n)) (pos b) (pos (b - 1 - q)) (ap (λ x. neg_ℤ (pos x)) h.0) (ap pos (let e = h.1 in let z : b - 1 - q ≡ 0 = omega arith in z))
below_zero q n b (inr h) = subst (λ x. IsModulo (neg_ℤ (pos x)) (pos b) (pos (b - 1 - q))) (sym h.0)
    (other_sign (negsuc q) (pos b) (pos (b - 1 - q)) (λ e. (let f : ⊥ = cc in f)) (neg_pos q b) (let l = h.1 in omega (arith, ints)))

above_zero : (q n b : ℕ) → Next q n (suc b) → IsModulo (pos n) (negsuc b) (neg_ℤ (pos (suc b - 1 - q)))
unfolding Next
above_zero q n b (inl h) = nothing_left (pos n) (negsuc b) (neg_ℤ (pos (suc b - 1 - q))) (ap pos h.0) (ap (λ x. neg_ℤ (pos x)) (let e = h.1 in let z : suc b - 1 - q ≡ 0 = omega arith in z))
above_zero q n b (inr h) = subst (λ x. IsModulo (pos x) (negsuc b) (neg_ℤ (pos (suc b - 1 - q)))) (sym h.0)
    (other_sign (pos (suc q)) (negsuc b) (neg_ℤ (pos (suc b - 1 - q))) (λ e. (let f : suc q ≡ 0 = cc in omega arith)) (pos_neg (suc q) b) (let l = h.1 in omega (arith, ints)))

minus_sign : (n b : ℕ) → IsModulo (neg_ℤ (pos n)) (negsuc b) (neg_ℤ (pos n))
minus_sign zero b = nothing_left (pos 0) (negsuc b) (pos 0) refl refl
minus_sign (suc n) b = same_sign (negsuc n) (negsuc b) (negsuc n) refl refl

is_modulo : (left right : ℤ) → (right ≡ pos 0 → ⊥) → IsModulo (rem_z left right) right (modulo left right)
is_modulo left (pos zero) p = absurd (p refl)
is_modulo (pos a) (pos (suc b)) p = same_sign (pos (a % suc b)) (pos (suc b)) (pos (a % suc b)) refl (pos_pos (a % suc b) (suc b))
is_modulo (negsuc a) (pos (suc b)) p = below_zero (a % suc b) (suc a % suc b) (suc b) (next_rest a (suc b) (omega arith))
is_modulo (pos zero) (negsuc b) p = nothing_left (pos (0 % suc b)) (negsuc b) (neg_ℤ (pos (0 % suc b))) (ap pos (zero-mod (suc b))) (ap (λ x. neg_ℤ (pos x)) (zero-mod (suc b)))
is_modulo (pos (suc a)) (negsuc b) p = above_zero (a % suc b) (suc a % suc b) b (next_rest a (suc b) (omega arith))
is_modulo (negsuc a) (negsuc b) p = minus_sign (suc a % suc b) b

-- a remainder that is 0 or has the divisor's sign stays
pub modulo_stays : (left right : ℤ) → (right ≡ pos 0 → ⊥) → (rem_z left right ≡ pos 0) ⊎ (differ (rem_z left right) right ≡ false) → rem_z left right ≡ modulo left right
modulo_stays left right p h = (is_modulo left right p).stays h

-- another one is moved by the divisor
pub modulo_moves : (left right : ℤ) → (right ≡ pos 0 → ⊥) → (rem_z left right ≡ pos 0 → ⊥) → differ (rem_z left right) right ≡ true → rem_z left right +ℤ right ≡ modulo left right
modulo_moves left right p n d = (is_modulo left right p).moves n d
