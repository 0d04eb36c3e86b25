-- Terms whose variables are seen as themselves or as integers.
use Rattle.std.proofs.Common.{◌≡◌, ℕ, ◌<◌, ◌≤◌, true, pos, [], ◌∷◌, ◌⊎◌, sym, subst, inl, inr, arith}
use Rattle.std.proofs.lemmas.Bool.{true≢false}
use Rattle.fd_language.specs.Term.{Term, Terms, Var, Int, Atom, Comp, Substitution, apply, apply_all, no_terms, term}
use Rattle.fd_language.specs.Family.{has}
use Rattle.fd_language.specs.Variables.{variables_of, variables_of_all}
use Rattle.fd_language.specs.Variables.{TermBelow, TermsBelow}
use Rattle.fd_language.proofs.Lemmas.{has_either, in_left, in_right}
use Rattle.fd_model.specs.ConstraintExpansion.{arguments}
use Rattle.fd_model.proofs.GoalRows.{IsPlain}
use Rattle.fd_model.proofs.ModelSubstitutions.{first_member, only_member}

mutual
  pub below_has : (n : ℕ) (t : Term) (x : ℕ) → TermBelow n t → has (variables_of t) x ≡ true → x < n
  below_has n (Var y) x h i = subst (λ z. z < n) (only_member y x i) h
  below_has n (Int z) x h i = absurd (true≢false (sym i))
  below_has n (Atom a) x h i = absurd (true≢false (sym i))
  below_has n (Comp f ts) x h i = all_below_has n ts x h i

  pub all_below_has : (n : ℕ) (ts : Terms) (x : ℕ) → TermsBelow n ts → has (variables_of_all ts) x ≡ true → x < n
  all_below_has n no_terms x h i = absurd (true≢false (sym i))
  all_below_has n (term t ts) x h i = elim (has_either (variables_of t) (variables_of_all ts) x i) [ inl k ↦ below_has n t x h.0 k | inr k ↦ all_below_has n ts x h.1 k ]

mutual
  pub wider : (n m : ℕ) → n ≤ m → (t : Term) → TermBelow n t → TermBelow m t
  wider n m l (Var x) h = omega arith
  wider n m l (Int z) h = tt
  wider n m l (Atom a) h = tt
  wider n m l (Comp f ts) h = all_wider n m l ts h

  pub all_wider : (n m : ℕ) → n ≤ m → (ts : Terms) → TermsBelow n ts → TermsBelow m ts
  all_wider n m l no_terms h = tt
  all_wider n m l (term t ts) h = (wider n m l t h.0, all_wider n m l ts h.1)

-- a variable, or an integer in its place
abbrev Plain : ℕ → Substitution → ℕ → Type 0
Plain M look x = (look x ≡ Var x) ⊎ ((n : ℕ) × (n ≤ M) × (look x ≡ Int (pos n)))

module _ (M n : ℕ) (look : Substitution) where
  variable_below : (x : ℕ) → x < n → Plain M look x → TermBelow n (look x)
  variable_below x h (inl e) = subst (TermBelow n) (sym e) h
  variable_below x h (inr e) = subst (TermBelow n) (sym e.2) tt

  mutual
    pub plain_below : (t : Term) → TermBelow n t → IsPlain M (variables_of t) look → TermBelow n (apply look t)
    plain_below (Var x) h p = variable_below x h (p x (first_member x []))
    plain_below (Int z) h p = tt
    plain_below (Atom a) h p = tt
    plain_below (Comp f ts) h p = all_plain_below ts h p

    pub all_plain_below : (ts : Terms) → TermsBelow n ts → IsPlain M (variables_of_all ts) look → TermsBelow n (apply_all look ts)
    all_plain_below no_terms h p = tt
    all_plain_below (term t ts) h p = (
      plain_below t h.0 (λ x i. p x (in_left (variables_of t) (variables_of_all ts) x i)),
      all_plain_below ts h.1 (λ x i. p x (in_right (variables_of t) (variables_of_all ts) x i)),
    )

  variable_has : (x y : ℕ) → Plain M look x → has (variables_of (look x)) y ≡ true → has (x ∷ []) y ≡ true
  variable_has x y (inl e) h = subst (λ r. has (variables_of r) y ≡ true) e h
  variable_has x y (inr e) h = absurd (true≢false (sym (subst (λ r. has (variables_of r) y ≡ true) e.2 h)))

  mutual
    pub plain_has : (t : Term) (y : ℕ) → IsPlain M (variables_of t) look → has (variables_of (apply look t)) y ≡ true → has (variables_of t) y ≡ true
    plain_has (Var x) y p h = variable_has x y (p x (first_member x [])) h
    plain_has (Int z) y p h = h
    plain_has (Atom a) y p h = h
    plain_has (Comp f ts) y p h = all_plain_has ts y p h

    pub all_plain_has : (ts : Terms) (y : ℕ) → IsPlain M (variables_of_all ts) look → has (variables_of_all (apply_all look ts)) y ≡ true → has (variables_of_all ts) y ≡ true
    all_plain_has no_terms y p h = h
    all_plain_has (term t ts) y p h = elim (has_either (variables_of (apply look t)) (variables_of_all (apply_all look ts)) y h) [
      | inl k ↦ in_left (variables_of t) (variables_of_all ts) y (plain_has t y (λ x i. p x (in_left (variables_of t) (variables_of_all ts) x i)) k)
      | inr k ↦ in_right (variables_of t) (variables_of_all ts) y (all_plain_has ts y (λ x i. p x (in_right (variables_of t) (variables_of_all ts) x i)) k)
    ]

-- the arguments of a term
pub arguments_below : (n : ℕ) (t : Term) → TermBelow n t → TermsBelow n (arguments t)
arguments_below n (Comp f ts) h = h
arguments_below n _ h = tt
