-- What holds of each element of a list, as far as it was looked at.
use Rattle.std.proofs.Common.{◌≡◌, ◌≢◌, ◌⊎◌, ◌↔◌, ℕ, ◌+◌, ◌<◌, ◌≤◌, true, false, IsTrue, List, length, take, get_or, Some, refl, sym, ap, ◌∙◌, subst, inl, inr}
use Rattle.std.proofs.Common.{arith, All}
use Rattle.std.proofs.lemmas.Bool.{cases_eq}
use Rattle.std.proofs.lemmas.List.{take_all}
use Rattle.fd_language.specs.Family.{has}
use Rattle.code_flow.proofs.Lemmas.{has_at}
use Rattle.std.proofs.lemmas.Option.{slice_get-get_or}

abbrev pub AllBelow : {A : Type 0} → (A → Type 0) → List A → ℕ → Type 0
AllBelow {A} P xs n = (k : ℕ) (d : A) → k < n → k < length xs → P (get_or xs k d)

module _ {A : Type 0} (P : A → Type 0) (xs : List A) where
  any_default : (i : ℕ) (d e : A) → i < length xs → get_or xs i d ≡ get_or xs i e
  any_default i d e h = let f : Some (get_or xs i d) ≡ Some (get_or xs i e) = sym (slice_get-get_or xs i d h) ∙ slice_get-get_or xs i e h in cc (f)

  pub all_start : AllBelow P xs 0
  all_start k d h l = absurd (omega (arith, h))

  pub all_more : (i : ℕ) (d : A) → AllBelow P xs i → P (get_or xs i d) → AllBelow P xs (i + 1)
  all_more i d f x k e h l = go (cases_eq k i)
    where
      go : (k ≡ i) ⊎ (k ≢ i) → P (get_or xs k e)
      go (inl z) = subst P (ap (λ n. get_or xs n d) (sym z) ∙ any_default k d e l) x
      go (inr z) = f k e (omega (arith, h, z)) l

  pub all_done : (n : ℕ) → length xs ≤ n → AllBelow P xs n → IsTrue true ↔ All P xs
  all_done n h f = (λ t k d l. f k d (omega (arith, h, l)) l, λ g. refl)

  pub all_miss : (i : ℕ) (d : A) → i < length xs → ¬ P (get_or xs i d) → IsTrue false ↔ All P xs
  all_miss i d h never = (λ e. absurd (cc (e)), λ f. absurd (never (f i d h)))

-- ---- what holds of each number of a list

module _ (P : ℕ → Type 0) (ns : List ℕ) where
  pub each_done : (n : ℕ) → length ns ≤ n → ((k : ℕ) → has (take n ns) k ≡ true → P k) → IsTrue true ↔ ((k : ℕ) → has ns k ≡ true → P k)
  each_done n h f = (λ t. subst (λ l. (k : ℕ) → has l k ≡ true → P k) (take_all n ns h) f, λ g. refl)

  pub each_miss : (i d : ℕ) → i < length ns → ¬ P (get_or ns i d) → IsTrue false ↔ ((k : ℕ) → has ns k ≡ true → P k)
  each_miss i d h never = (λ e. absurd (cc (e)), λ f. absurd (never (f (get_or ns i d) (has_at ns i d h))))
