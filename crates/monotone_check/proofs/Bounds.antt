-- Bounds that are kept only up to the limit.
use Rattle.std.proofs.Common.{◌≡◌, ℕ, zero, suc, ◌-◌, ◌*◌, ◌^◌, ◌≤◌, min, sym, ◌∙◌, ap, inl, inr, arith, mul-le-mul}
use Rattle.std.proofs.Math.Nat.{mul_comm, min-eq_right, min-eq_left}
use Rattle.std.proofs.lemmas.Bool.{cases_lt}
use Rattle.fd_language.proofs.Lemmas.{two}
use Rattle.monotone_check.specs.Summary.{capped}

reached : (C B n : ℕ) → C ≤ B → C ≤ n → min (min n B) C ≡ C
reached C B n h g = omega arith

below : (C B n : ℕ) → C ≤ B → min (min n B) C ≡ min n C
below C B n h = omega arith

-- a factor of at least 1
grown : (C m n : ℕ) → C ≤ m → C ≤ m * suc n
grown C m n h = let e = mul-le-mul h (one_more n) in omega (arith, e) where
  one_more : (n : ℕ) → 1 ≤ suc n
  one_more n = omega arith

nothing : (C B k x : ℕ) → min (min (k * 0) B) C ≡ min (x * 0) C
nothing C B k x = omega arith

over_left : (C B x y : ℕ) → C ≤ B → 1 ≤ C → C ≤ x → min (min (min x C * min y C) B) C ≡ min (x * y) C
over_left C B x zero h o g = ap (λ n. min (min (min x C * n) B) C) (min-eq_left (omega arith)) ∙ nothing C B (min x C) x
over_left C B x (suc y) h o g =
    let a : C ≤ min x C * min (suc y) C = over (min x C) (min (suc y) C) (omega arith) (omega arith) in
    let b : C ≤ x * suc y = grown C x y g in
    reached C B (min x C * min (suc y) C) h a ∙ sym (min-eq_right b)
  where
    over : (m n : ℕ) → C ≤ m → 1 ≤ n → C ≤ m * n
    over m n h g = let e = mul-le-mul h g in omega (arith, e)

capped_product_at : (C B x y : ℕ) → C ≤ B → 1 ≤ C → min (min (min x C * min y C) B) C ≡ min (x * y) C
capped_product_at C B x y h o = elim (cases_lt x C) [
  | inr l ↦ over_left C B x y h o l
  | inl l ↦ elim (cases_lt y C) [
    | inr k ↦ ap (λ n. min (min n B) C) (mul_comm (min x C) (min y C)) ∙ (over_left C B y x h o k ∙ ap (λ n. min n C) (mul_comm y x))
    | inl k ↦ below C B (min x C * min y C) h ∙ two (λ a b. min (a * b) C) (min-eq_left (omega arith)) (min-eq_left (omega arith))
  ]
]

pub capped_product : (a b x y p m : ℕ) → p ≡ min (a * b) 340282366920938463463374607431768211455 → m ≡ min p 85070591730234615865843651857942052864 → a ≡ capped x → b ≡ capped y → m ≡ capped (x * y)
capped_product a b x y p m h g e f = g ∙ (ap (λ n. min n (2 ^ 126)) h
    ∙ (two (λ k l. min (min (k * l) (2 ^ 128 - 1)) (2 ^ 126)) e f ∙ capped_product_at (2 ^ 126) (2 ^ 128 - 1) x y (omega arith) (omega arith)))
