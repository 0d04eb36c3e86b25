-- Places that are told one after another.
use Rattle.std.proofs.Common.{◌≡◌, ◌⊎◌, ℕ, ◌<◌, ◌≤◌, List, Option, Some, None, refl, sym, subst, inl, inr, arith, ◌∙◌}
use Rattle.wam_code.specs.Area.{State, Area}
use Rattle.code_flow.specs.PlaceConditions.{FitsAt}
use Rattle.code_text.specs.FaultPlaces.{IsTold, Tells, IsFault, TellsFaults}

pub told_below : (o : Option ℕ) (p q : ℕ) → p ≤ q → IsTold o p → IsTold o q
told_below None p q h t = t
told_below (Some f) p q h t = omega (arith, h, t)

-- ---- a place more

pub tell_none : (o : Option ℕ) (p : ℕ) → o ≡ None → Tells (λ x. x ≡ p) o (Some p)
tell_none o p e = subst (λ x. Tells (λ x. x ≡ p) x (Some p)) (sym e) (record { kept = λ q t. absurd t; only = inr (p, refl, refl, λ t. t) })

pub tell_lower : (o : Option ℕ) (f p : ℕ) → o ≡ Some f → p < f → Tells (λ x. x ≡ p) o (Some p)
tell_lower o f p e h = subst (λ x. Tells (λ x. x ≡ p) x (Some p)) (sym e) (record {
  kept = λ q t. (let r : p ≤ q = omega (arith, h, t) in
      r);
  only = inr (p, refl, refl, λ t. (let r : ⊥ = omega (arith, h, t) in r));
})

pub told_already : (o : Option ℕ) (f p : ℕ) → o ≡ Some f → f ≤ p → IsTold o p
told_already o f p e h = subst (λ x. IsTold x p) (sym e) h

pub tell_same : (P : ℕ → Type 0) (o : Option ℕ) → Tells P o o
tell_same P o = record { kept = λ q t. t; only = inl refl }

-- ---- of one kind and of another

pub tells_as : (P Q : ℕ → Type 0) (old new : Option ℕ) → ((p : ℕ) → P p → Q p) → Tells P old new → Tells Q old new
tells_as P Q old new f t = record { kept = t.kept; only = go t.only }
  where
    go : (new ≡ old) ⊎ ((p : ℕ) × (new ≡ Some p) × P p × ¬ IsTold old p) → (new ≡ old) ⊎ ((p : ℕ) × (new ≡ Some p) × Q p × ¬ IsTold old p)
    go (inl e) = inl e
    go (inr (p, e, h, n)) = inr (p, e, f p h, n)

pub tells_then : (P : ℕ → Type 0) (old mid new : Option ℕ) → Tells P old mid → Tells P mid new → Tells P old new
tells_then P old mid new t u = record { kept = λ p h. u.kept p (t.kept p h); only = go u.only }
  where
    first : new ≡ mid → (mid ≡ old) ⊎ ((p : ℕ) × (mid ≡ Some p) × P p × ¬ IsTold old p) → (new ≡ old) ⊎ ((p : ℕ) × (new ≡ Some p) × P p × ¬ IsTold old p)
    first e (inl f) = inl (e ∙ f)
    first e (inr (p, f, h, n)) = inr (p, e ∙ f, h, n)

    go : (new ≡ mid) ⊎ ((p : ℕ) × (new ≡ Some p) × P p × ¬ IsTold mid p) → (new ≡ old) ⊎ ((p : ℕ) × (new ≡ Some p) × P p × ¬ IsTold old p)
    go (inl e) = first e t.only
    go (inr (p, e, h, n)) = inr (p, e, h, λ x. n (t.kept p x))

-- ---- faults

module _ (a : Area) (ss : List State) where
  pub faults_same : (o : Option ℕ) → TellsFaults a ss o o
  faults_same o = record { kept = λ p t. t; fault = λ f. f }

  pub faults_then : (old mid new : Option ℕ) → TellsFaults a ss old mid → TellsFaults a ss mid new → TellsFaults a ss old new
  faults_then old mid new t u = record { kept = λ p h. u.kept p (t.kept p h); fault = λ f. u.fault (t.fault f) }

  -- what is told newly is at fault
  pub faults_by : (P : ℕ → Type 0) (old new : Option ℕ) → Tells P old new → ((p : ℕ) → P p → ¬ IsTold old p → ¬ FitsAt a ss p) → TellsFaults a ss old new
  faults_by P old new t h = record { kept = t.kept; fault = λ f. go f t.only }
    where
      go : IsFault a ss old → (new ≡ old) ⊎ ((p : ℕ) × (new ≡ Some p) × P p × ¬ IsTold old p) → IsFault a ss new
      go f (inl e) = subst (IsFault a ss) (sym e) f
      go f (inr (p, e, x, n)) = subst (IsFault a ss) (sym e) (h p x n)
