-- Each solvable list of equations has the most general unifier that takes equal variables to the least of them.
use Rattle.std.proofs.Common.{◌≡◌, ℕ, zero, suc, ◌+◌, ◌≤◌, Bool, true, cond, List, refl, ap, sym, ◌∙◌, subst, inl, inr, arith, eqb-true, eq-eqb}
use Rattle.std.proofs.lemmas.Bool.{cases_Bool, true≢false}
use Rattle.fd_language.specs.Term.{Term, Terms, Var, Int, Atom, Comp, Substitution, apply, apply_all, no_terms, term, after}
use Rattle.fd_language.specs.Unifier.{Equation, IsMostGeneral, Unifies}
use Rattle.fd_model.specs.BranchViews.{is_variable}
use Rattle.fd_language.proofs.Lemmas.{still_unifies}

-- the least number up to n that passes, and n where none does
first : (ℕ → Bool) → ℕ → ℕ → ℕ
first p low zero = low
first p low (suc n) = cond (p low) low (first p (suc low) n)

first_passes : (p : ℕ → Bool) (low n : ℕ) → p (low + n) ≡ true → p (first p low n) ≡ true
unfolding first
first_passes p low zero h = subst (λ k. p k ≡ true) (omega arith) h
first_passes p low (suc n) h = elim (cases_Bool (p low)) [ inl e ↦ rw e e | inr e ↦ rw e (first_passes p (suc low) n (let k : low + suc n ≡ suc low + n = omega arith in subst (λ j. p j ≡ true) k h)) ]

first_least : (p : ℕ → Bool) (low n k : ℕ) → low ≤ k → p k ≡ true → first p low n ≤ k
unfolding first
first_least p low zero k h e = h
first_least p low (suc n) k h e = elim (cases_Bool (p low)) [
  | inl f ↦ rw f h
  | inr f ↦ rw f (first_least p (suc low) n k (let d : low ≡ k → ⊥ = λ q. true≢false (sym e ∙ ap p (sym q) ∙ f) in omega arith) e)
]

-- the least variable that s takes to y
lowest : Substitution → Substitution
lowest s y = Var (first (λ k. is_variable (s k) y) 0 y)

pub is_variable_true : (t : Term) (y : ℕ) → is_variable t y ≡ true → t ≡ Var y
is_variable_true (Var x) y h = ap Var (eqb-true x y h)
is_variable_true _ y h = absurd (true≢false (sym h))

variable_is : (t : Term) (y : ℕ) → t ≡ Var y → is_variable t y ≡ true
variable_is t y e = subst (λ r. is_variable r y ≡ true) (sym e) (eq-eqb y y refl)

module _ (es : List Equation) (s : Substitution) (g : IsMostGeneral es s) where
  lowest_is : (y : ℕ) → s y ≡ Var y → s (first (λ k. is_variable (s k) y) 0 y) ≡ Var y
  lowest_is y e = is_variable_true _ y (first_passes (λ k. is_variable (s k) y) 0 y (let z : 0 + y ≡ y = omega arith in subst (λ k. is_variable (s k) y ≡ true) (sym z) (variable_is (s y) y e)))

  mutual
    unfolding lowest

    lowest_same : (u : Substitution) → Unifies u es → (t : Term) → apply s t ≡ t → apply u (apply (lowest s) t) ≡ apply u t
    lowest_same u h (Var y) e = sym (g.general u _ h) ∙ ap (apply u) (lowest_is y e)
    lowest_same u h (Int z) e = refl
    lowest_same u h (Atom a) e = refl
    lowest_same u h (Comp f ts) e = ap (Comp f) (lowest_all u h ts (let k : apply_all s ts ≡ ts = cc in k))

    lowest_all : (u : Substitution) → Unifies u es → (ts : Terms) → apply_all s ts ≡ ts → apply_all u (apply_all (lowest s) ts) ≡ apply_all u ts
    lowest_all u h no_terms e = refl
    lowest_all u h (term t ts) e = let a = lowest_same u h t (let k : apply s t ≡ t = cc in k) in let b = lowest_all u h ts (let k : apply_all s ts ≡ ts = cc in k) in cc

  low : (x y : ℕ) (t : Term) → s x ≡ t → apply (lowest s) t ≡ Var y → y ≤ x
  unfolding lowest
  low x y (Var z) e f = let k : first (λ k. is_variable (s k) z) 0 z ≡ y = cc in omega (arith, first_least (λ k. is_variable (s k) z) 0 z x (omega arith) (variable_is (s x) z e))
  low x y _ e f = absurd (cc)

  pub canonical : (r : Substitution) × IsMostGeneral es r × ((x y : ℕ) → r x ≡ Var y → y ≤ x)
  canonical = (
    after (lowest s) s,
    record { unifies = still_unifies (lowest s) s es g.unifies; general = λ u x h. lowest_same u h (s x) (g.general s x g.unifies) ∙ g.general u x h },
    λ x y e. low x y (s x) refl e,
  )
