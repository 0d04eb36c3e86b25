-- Quotients of two ends.
use Rattle.std.proofs.Common.{◌≡◌, ℕ, zero, suc, ◌+◌, ◌-◌, ◌/◌, ◌≤◌, ◌<◌, max, pos, neg_ℤ, refl, sym, ◌∙◌, ap, arith}
use Rattle.std.proofs.Math.Nat.{add-div_right, div-eq_of_lt, zero-div}
use Rattle.fd_language.specs.declared.TheConstants.{INFINITY}
use Rattle.fd_language.specs.Range.{div_down, div_up}

pub up_quotient : (a b : ℕ) → 0 < b → pos ((a + (b - 1)) / b) ≡ div_up INFINITY (pos a) (pos b)
up_quotient a zero h = absurd (let z : ⊥ = omega (arith, h) in z)
up_quotient zero (suc n) h = let l : zero + (suc n - 1) < suc n = omega arith in ap pos (div-eq_of_lt l) ∙ sym (ap (λ k. neg_ℤ (pos k)) (zero-div (suc n)))
up_quotient (suc k) (suc n) h =
    let e : suc k + (suc n - 1) ≡ k + suc n = omega arith in
    let f : k / suc n + 1 ≡ suc (k / suc n) = omega arith in
    ap (λ x. pos (x / suc n)) e ∙ (ap pos (add-div_right k h) ∙ ap pos f)

pub down_quotient : (a b : ℕ) → 0 < b → pos (a / b) ≡ div_down INFINITY (pos a) (pos b)
down_quotient a zero h = absurd (let z : ⊥ = omega (arith, h) in z)
down_quotient a (suc n) h = refl

pub up_by_none : (a b : ℕ) → a ≤ INFINITY → b ≡ 0 → 0 < a → pos INFINITY ≡ div_up INFINITY (pos a) (pos b)
up_by_none zero b l e h = absurd (let z : ⊥ = omega (arith, h) in z)
up_by_none (suc a) b l e h = let k : INFINITY ≡ max (suc a) INFINITY = omega (arith, l) in ap pos k ∙ sym (ap (λ n. div_up INFINITY (pos (suc a)) (pos n)) e)

pub none_by_none : (a b : ℕ) → b ≡ 0 → a ≡ 0 → pos 0 ≡ div_up INFINITY (pos a) (pos b)
none_by_none a b e h = sym (ap (λ n. div_up INFINITY (pos n) (pos b)) h ∙ ap (λ n. div_up INFINITY (pos 0) (pos n)) e)

pub down_by_none : (a b : ℕ) → a ≤ INFINITY → b ≡ 0 → pos INFINITY ≡ div_down INFINITY (pos a) (pos b)
down_by_none a b l e = let k : INFINITY ≡ max a INFINITY = omega (arith, l) in ap pos k ∙ sym (ap (λ n. div_down INFINITY (pos a) (pos n)) e)
