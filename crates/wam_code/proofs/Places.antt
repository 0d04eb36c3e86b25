-- Registers that are written.
use Rattle.std.proofs.Common.{◌≡◌, ℕ, if◌then◌else◌, Option, Some, refl, ap, eq-eqb, ne_eqb}
use Rattle.wam_code.specs.Places.{put_at, drop_at}

-- what is put is there
pub put_here : {A : Type 0} → (i : ℕ) (t : A) (r : ℕ → Option A) → put_at i t r i ≡ Some t
put_here i t r = ap (λ c. if c then Some t else r i) (eq-eqb i i refl)

-- and the other registers are as before
pub put_else : {A : Type 0} → (i : ℕ) (t : A) (r : ℕ → Option A) (j : ℕ) → (j ≡ i → ⊥) → put_at i t r j ≡ r j
put_else i t r j h = ap (λ c. if c then Some t else r j) (ne_eqb j i h)
