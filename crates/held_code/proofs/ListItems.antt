-- What holds of each item of a list so far, and of the next one.
use Rattle.std.proofs.Common.{◌≡◌, ◌⊎◌, ℕ, ◌+◌, ◌<◌, ◌≤◌, List, length, get_or, inl, inr, ◌∙◌, subst, arith}
use Rattle.std.proofs.lemmas.Bool.{cases_lt}
use Rattle.std.proofs.lemmas.List.{get_or_default}

pub one_more : {A : Type 0} (P : A → Type 0) (xs : List A) (i : ℕ) (x : A) → i < length xs → x ≡ get_or xs i x → ((k : ℕ) (d : A) → k < i → P (get_or xs k d))
    → P x → (k : ℕ) (d : A) → k < i + 1 → P (get_or xs k d)
one_more {A} P xs i x within is before here k d l = go (cases_lt k i)
  where
    go : (k < i) ⊎ (i ≤ k) → P (get_or xs k d)
    go (inl h) = before k d h
    go (inr h) = let same : i ≡ k = omega (arith, h, l) in subst (λ (n : ℕ). P (get_or xs n d)) same (subst P (is ∙ get_or_default xs i x d within) here)
