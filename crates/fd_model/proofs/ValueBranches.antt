-- The consistent ones among branches that are made from numbers.
use Rattle.std.proofs.Common.{◌≡◌, ℕ, suc, ◌<◌, ◌≤◌, true, ◌==◌, List, [], ◌∷◌, map, sym, subst, inl, inr, eqb-true}
use Rattle.std.proofs.lemmas.Bool.{or_cases, or_right, true≢false}
use Rattle.fd_language.specs.Family.{has, IsRising}
use Rattle.fd_model.specs.Goal.{Branch}
use Rattle.fd_model.specs.BranchViews.{IsConsistent}
use Rattle.fd_model.specs.Children.{Kept}
use Rattle.fd_language.proofs.Lemmas.{has_low}
use Rattle.fd_language.specs.Lists.{Each}
use Rattle.fd_model.specs.Answers.{Somewhere, InOrder}
use Rattle.fd_model.proofs.ModelSubstitutions.{first_member}

-- a rising list whose numbers are up to N
pub rising_within : (low high N : ℕ) (xs : List ℕ) → IsRising low high xs → ((n : ℕ) → has xs n ≡ true → n ≤ N) → IsRising low N xs
rising_within low high N [] r h = tt
rising_within low high N (x ∷ xs) r h = (r.0, h x (first_member x xs), rising_within (suc x) high N xs r.2 (λ n i. h n (or_right (x == n) (has xs n) i)))

module _ (M N : ℕ) (f : ℕ → Branch) where
  abbrev IsLive : Branch → Type 0
  IsLive c = IsConsistent M N c.equations c.posted

  -- what holds of each consistent one holds of each that is kept
  pub kept_each : (H : Branch → Type 0) (xs : List ℕ) (cs : List Branch) → ((n : ℕ) → has xs n ≡ true → IsLive (f n) → H (f n)) → Kept M N (map f xs) cs → Each H cs
  kept_each H [] cs h k = subst (Each H) (sym k) tt
  kept_each H (x ∷ xs) cs h (inl k) = subst (Each H) (sym k.1.1) (h x (first_member x xs) k.0, kept_each H xs k.1.0 (λ n i. h n (or_right (x == n) (has xs n) i)) k.1.2)
  kept_each H (x ∷ xs) cs h (inr k) = kept_each H xs cs (λ n i. h n (or_right (x == n) (has xs n) i)) k.1

  -- each consistent one is kept
  pub kept_there : (H : Branch → Type 0) (xs : List ℕ) (cs : List Branch) (n : ℕ) → has xs n ≡ true → IsLive (f n) → H (f n) → Kept M N (map f xs) cs → Somewhere H cs
  kept_there H [] cs n i l h k = absurd (true≢false (sym i))
  kept_there H (x ∷ xs) cs n i l h (inl k) = subst (Somewhere H) (sym k.1.1) (elim (or_cases (x == n) (has xs n) i) [
    | inl e ↦ inl (subst (λ m. H (f m)) (sym (eqb-true x n e)) h)
    | inr e ↦ inr (kept_there H xs k.1.0 n e l h k.1.2)
  ])
  kept_there H (x ∷ xs) cs n i l h (inr k) = elim (or_cases (x == n) (has xs n) i) [
    | inl e ↦ absurd (k.0 (subst (λ m. IsLive (f m)) (sym (eqb-true x n e)) l))
    | inr e ↦ kept_there H xs cs n e l h k.1
  ]

  -- the kept ones of rising numbers
  pub kept_order : (R : Branch → Branch → Type 0) (low high : ℕ) (xs : List ℕ) (cs : List Branch) → ((m n : ℕ) → m < n → R (f m) (f n)) → IsRising low high xs → Kept M N (map f xs) cs → InOrder R cs
  kept_order R low high [] cs h r k = subst (InOrder R) (sym k) tt
  kept_order R low high (x ∷ xs) cs h r (inl k) = subst (InOrder R) (sym k.1.1) (
    kept_each (R (f x)) xs k.1.0 (λ n i l. h x n (has_low (suc x) high xs n r.2 i)) k.1.2,
    kept_order R (suc x) high xs k.1.0 h r.2 k.1.2,
  )
  kept_order R low high (x ∷ xs) cs h r (inr k) = kept_order R (suc x) high xs cs h r.2 k.1
