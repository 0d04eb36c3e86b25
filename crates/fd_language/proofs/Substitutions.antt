-- Substitutions one after the other, and a variable that becomes an integer.
use Rattle.std.proofs.Common.{◌≡◌, ℕ, Bool, true, false, cond, ◌==◌, ℤ, List, [], ◌∷◌, ◌⊎◌, refl, ap, sym, ◌∙◌, inl, inr, eqb-true, eq-eqb}
use Rattle.fd_language.specs.Term.{Term, Terms, Var, Int, Atom, Comp, Substitution, apply, apply_all, after, no_terms, term}
use Rattle.fd_language.specs.Unifier.{Equation, IsMostGeneral, Unifies}

-- A term under r after s is what r makes of it under s.
mutual
  pub after_is : (r s : Substitution) (t : Term) → apply (after r s) t ≡ apply r (apply s t)
  after_is r s (Comp f ts) = ap (Comp f) (after_are r s ts)
  after_is r s _ = refl

  pub after_are : (r s : Substitution) (ts : Terms) → apply_all (after r s) ts ≡ apply_all r (apply_all s ts)
  after_are r s no_terms = refl
  after_are r s (term t ts) = let a = after_is r s t in let b = after_are r s ts in cc

-- A unifier is still one with another substitution after it.
pub still_unifies : (r s : Substitution) (es : List Equation) → Unifies s es → Unifies (after r s) es
still_unifies r s [] h = tt
still_unifies r s (e ∷ es) h = (after_is r s e.left ∙ ap (apply r) h.0 ∙ sym (after_is r s e.right), still_unifies r s es h.1)

-- where u goes through s on variables, it does on terms
mutual
  pub through_term : (s u : Substitution) → ((y : ℕ) → apply u (s y) ≡ u y) → (t : Term) → apply u (apply s t) ≡ apply u t
  through_term s u h (Var y) = h y
  through_term s u h (Int z) = refl
  through_term s u h (Atom a) = refl
  through_term s u h (Comp f ts) = ap (Comp f) (through_terms s u h ts)

  pub through_terms : (s u : Substitution) → ((y : ℕ) → apply u (s y) ≡ u y) → (ts : Terms) → apply_all u (apply_all s ts) ≡ apply_all u ts
  through_terms s u h no_terms = refl
  through_terms s u h (term t ts) = let a = through_term s u h t in let b = through_terms s u h ts in cc

-- y goes to the integer
unfoldable pub number_for : ℕ → ℤ → Substitution
number_for y z x = cond (x == y) (Int z) (Var x)

-- y itself is the integer then
pub number_at : (y : ℕ) (z : ℤ) → number_for y z y ≡ Int z
unfolding number_for
number_at y z = rw (eq-eqb y y refl) refl

number_cases : (b : Bool) (x : ℕ) (z k : ℤ) → cond b (Int z) (Var x) ≡ Int k → (b ≡ true) × (z ≡ k)
number_cases true x z k e = (refl, let h : z ≡ k = cc in h)
number_cases false x z k e = absurd (cc)

-- an integer that a term becomes so
pub number_back : (y : ℕ) (z k : ℤ) (t : Term) → apply (number_for y z) t ≡ Int k → ((t ≡ Var y) × (z ≡ k)) ⊎ (t ≡ Int k)
unfolding number_for
number_back y z k (Var x) e = let h = number_cases (x == y) x z k e in inl (ap Var (eqb-true x y h.0), h.1)
number_back y z k (Int j) e = inr e
number_back y z k (Atom a) e = absurd (cc)
number_back y z k (Comp f ts) e = absurd (cc)

-- no equations: the identity is a most general unifier
mutual
  pub apply_vars : (t : Term) → apply Var t ≡ t
  apply_vars (Comp f ts) = ap (Comp f) (apply_all_vars ts)
  apply_vars _ = refl

  pub apply_all_vars : (ts : Terms) → apply_all Var ts ≡ ts
  apply_all_vars no_terms = refl
  apply_all_vars (term t ts) = let first = apply_vars t in let rest = apply_all_vars ts in cc

pub identity : IsMostGeneral [] Var
identity = record { unifies = tt; general = λ u x h. refl }
