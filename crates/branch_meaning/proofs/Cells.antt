-- New cells for new variables.
use Rattle.std.proofs.Common.{◌≡◌, ℕ, ◌+◌, ◌-◌, ◌<◌, ◌≤◌, cond, nat_lt, arith}
use Rattle.std.proofs.lemmas.Bool.Decides.{nat_tests}

-- the variables from n on have the cells from h on
pub place_from : ℕ → ℕ → (ℕ → ℕ) → ℕ → ℕ
place_from n h place v = cond (nat_lt v n) (place v) (h + (v - n))

pub place_old : (n h : ℕ) (place : ℕ → ℕ) (v : ℕ) → v < n → place_from n h place v ≡ place v
unfolding place_from
place_old n h place v l = grind (arith, nat_tests)

pub place_above : (n h : ℕ) (place : ℕ → ℕ) (v : ℕ) → n ≤ v → place_from n h place v ≡ h + (v - n)
unfolding place_from
place_above n h place v l = grind (arith, nat_tests)
