-- What stands before the first byte that passes.
use Rattle.std.proofs.Common.{◌≡◌, ℕ, ◌+◌, ◌<◌, ◌≤◌, Bool, true, false, List, length, take, get_or, refl, sym, ap, ◌∙◌, subst, arith, nat_lt}
use Rattle.std.specs.List.{before_first}
use Rattle.std.proofs.lemmas.Bool.{ltb-true, ltb-false}
use Rattle.std.proofs.lemmas.List.Sums.{position_or_len_is}
use Rattle.answer_check.proofs.Lists.{take_whole}

module _ {X : Type 0} (p : X → Bool) (xs : List X) (d : X) where
  -- none of the first so many passes
  abbrev pub NoneBelow : ℕ → Type 0
  NoneBelow i = (k : ℕ) → k < i → p (get_or xs k d) ≡ false

  pub none_below_0 : NoneBelow 0
  none_below_0 k l = absurd (omega (arith, l))

  pub none_more : (i : ℕ) → NoneBelow i → p (get_or xs i d) ≡ false → NoneBelow (i + 1)
  none_more i h e k l = by (nat_lt k i) refl where
    by : (b : Bool) → nat_lt k i ≡ b → p (get_or xs k d) ≡ false
    by true f = h k (ltb-true k i f)
    by false f = (let g : k ≡ i = omega (arith, l, ltb-false k i f) in subst (λ j. p (get_or xs j d) ≡ false) (sym g) e)

  pub before_at : (i : ℕ) → i < length xs → NoneBelow i → p (get_or xs i d) ≡ true → take i xs ≡ before_first p xs
  before_at i l h e = ap (λ k. take k xs) (sym (position_or_len_is p xs i d (omega (arith, l)) h (λ m. e)))

  pub before_all : (i : ℕ) → length xs ≤ i → i ≤ length xs → NoneBelow i → xs ≡ before_first p xs
  before_all i l m h = sym (ap (λ k. take k xs) (position_or_len_is p xs i d m h (λ n. absurd (omega (arith, l, n)))) ∙ take_whole xs i l)
