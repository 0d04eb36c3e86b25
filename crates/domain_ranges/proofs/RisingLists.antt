-- The numbers of a rising list from one on.
use Rattle.std.proofs.Common.{◌≡◌, ℕ, suc, ◌+◌, ◌≤◌, Bool, true, false, ◌==◌, nat_le, List, [], ◌∷◌, length, filter, refl, ap, sym, ◌∙◌, arith, inl, inr, eqb-true}
use Rattle.std.proofs.lemmas.Bool.{le-leb, lt-leb, leb-true, leb-false, or_cases, cases_Bool}
use Rattle.fd_language.specs.Family.{has, IsRising}
use Rattle.fd_language.specs.Range.{least}

passes : (p : ℕ → Bool) (x : ℕ) (xs : List ℕ) → p x ≡ true → filter p (x ∷ xs) ≡ x ∷ filter p xs
passes p x xs e = grind (arith, e)

drops : (p : ℕ → Bool) (x : ℕ) (xs : List ℕ) → p x ≡ false → filter p (x ∷ xs) ≡ filter p xs
drops p x xs e = grind (arith, e)

-- all are
pub filter_from_low : (n low high : ℕ) (xs : List ℕ) → IsRising low high xs → n ≤ low → filter (λ k. nat_le n k) xs ≡ xs
filter_from_low n low high [] r l = refl
filter_from_low n low high (x ∷ xs) r l =
    passes (λ k. nat_le n k) x xs (le-leb n x (let a = r.0 in omega (arith, a, l))) ∙ ap (λ ys. x ∷ ys) (filter_from_low n (suc x) high xs r.2 (let a = r.0 in omega (arith, a, l)))

-- they are no more than there are numbers
pub rising_length : (low high : ℕ) (xs : List ℕ) → IsRising low high xs → low ≤ suc high → length xs + low ≤ suc high
rising_length low high [] r l = omega (arith, l)
rising_length low high (x ∷ xs) r l = (let a = r.0 in let b = r.1 in let h = rising_length (suc x) high xs r.2 (omega (arith, b)) in omega (arith, a, b, h))

-- the least number from n on, and those behind it
pub values_step : (low high n m : ℕ) (xs : List ℕ) → IsRising low high xs → has xs m ≡ true → n ≤ m → m ≡ least (filter (λ k. nat_le n k) xs)
    → filter (λ k. nat_le n k) xs ≡ m ∷ filter (λ k. nat_le (m + 1) k) xs
values_step low high n m [] r h l e = grind arith
values_step low high n m (x ∷ xs) r h l e = elim (cases_Bool (nat_le n x)) [
  | inl y ↦
      (let a = leb-true n x y in
      let f : m ≡ x = e ∙ ap least (passes (λ k. nat_le n k) x xs y) in
      let low_now = filter_from_low n (suc x) high xs r.2 (omega (arith, a)) in
      let low_next = filter_from_low (x + 1) (suc x) high xs r.2 (omega arith) in
      passes (λ k. nat_le n k) x xs y ∙ ap (λ ys. x ∷ ys) low_now
      ∙ sym (ap (λ j. j ∷ filter (λ k. nat_le (j + 1) k) (x ∷ xs)) f ∙ ap (λ ys. x ∷ ys) (drops (λ k. nat_le (x + 1) k) x xs (lt-leb (x + 1) x (omega arith)) ∙ low_next)))
  | inr y ↦
      (let a = leb-false n x y in
      let there : has xs m ≡ true = elim (or_cases (x == m) (has xs m) h) [ inl i ↦ absurd (omega (arith, eqb-true x m i, a, l)) | inr i ↦ i ] in
      drops (λ k. nat_le n k) x xs y ∙ values_step (suc x) high n m xs r.2 there l (e ∙ ap least (drops (λ k. nat_le n k) x xs y))
      ∙ ap (λ ys. m ∷ ys) (sym (drops (λ k. nat_le (m + 1) k) x xs (lt-leb (m + 1) x (omega (arith, a, l))))))
]
