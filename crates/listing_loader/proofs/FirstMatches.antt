-- The first element that passes a test.
use Rattle.std.proofs.Common.{◌≡◌, ℕ, ◌<◌, ◌≤◌, Bool, true, false, cond, ltb, List, length, get_or, Some, None, sym, ap, ◌∙◌, arith}
use Rattle.std.specs.List.{position}
use Rattle.std.proofs.lemmas.Bool.{lt-ltb, le-ltb}
use Rattle.std.proofs.lemmas.List.Sums.{position_or_len_is}

module _ {X : Type 0} (p : X → Bool) (xs : List X) where
  pub first_at : (i : ℕ) (d : X) → i < length xs → ((k : ℕ) → k < i → p (get_or xs k d) ≡ false) → p (get_or xs i d) ≡ true → Some i ≡ position p xs
  first_at i d low before here =
      let is = position_or_len_is p xs i d (omega arith) before (λ h. here) in
      sym (ap (λ n. cond (ltb n (length xs)) (Some n) None) is ∙ ap (λ b. cond b (Some i) None) (lt-ltb i (length xs) low))

  pub none_at : (n : ℕ) (d : X) → length xs ≤ n → ((k : ℕ) → k < n → p (get_or xs k d) ≡ false) → None ≡ position p xs
  none_at n d high each =
      let is = position_or_len_is p xs (length xs) d (omega arith) (λ k h. each k (omega (arith, h, high))) (λ h. absurd (omega (arith, h))) in
      sym (ap (λ n. cond (ltb n (length xs)) (Some n) None) is ∙ ap (λ b. cond b (Some (length xs)) None) (le-ltb (length xs) (length xs) (omega arith)))
