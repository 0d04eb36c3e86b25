-- What is seen of known variables has known variables alone.
use Rattle.std.proofs.Common.{◌≡◌, ℕ, ◌<◌, true, false, ◌==◌, List, [], ◌∷◌, Option, Some, None, sym, subst, inl, inr, eqb-true}
use Rattle.std.proofs.lemmas.Bool.{or_cases, true≢false}
use Rattle.fd_language.specs.Term.{Term, Terms, Var, Int, Atom, Comp, Substitution, apply, apply_all, no_terms, term}
use Rattle.fd_language.specs.Unifier.{Equation, IsMostGeneral}
use Rattle.fd_language.specs.Family.{Family, has}
use Rattle.fd_model.specs.BranchViews.{seen, by_set, set_at}
use Rattle.fd_language.specs.Lists.{Each}
use Rattle.fd_language.specs.Variables.{variables_of, variables_of_all, TermBelow}
use Rattle.fd_language.proofs.Lemmas.{has_either, after_is}
use Rattle.branch_meaning.specs.Heap.{Of, AllOf, EquationsOf}
use Rattle.fd_model.proofs.Lemmas.{unifier_below}
use Rattle.branch_meaning.proofs.HeapExtension.{still_of}
use Rattle.branch_meaning.proofs.Renaming.{of_below, below_of}

equations_below : (n : ℕ) (es : List Equation) → EquationsOf (λ x. x < n) es → Each (λ e. TermBelow n e.left × TermBelow n e.right) es
equations_below n [] b = tt
equations_below n (e ∷ es) b = ((below_of n e.left b.0.0, below_of n e.right b.0.1), equations_below n es b.1)

module _ (n : ℕ) (es : List Equation) (s : Substitution) (g : IsMostGeneral es s) (below : EquationsOf (λ x. x < n) es) where
  -- a most general unifier brings no new variables
  unifier_of : (x : ℕ) → x < n → Of (λ y. y < n) (s x)
  unifier_of x h = of_below n (s x) (unifier_below n es s g (equations_below n es below) x h)

  module _ (D : Family) (ws : List ℕ) where
    set_of : (o : Option (List ℕ)) (x : ℕ) → x < n → Of (λ y. y < n) (by_set o x)
    set_of None x h = h
    set_of (Some []) x h = h
    set_of (Some (k ∷ [])) x h = tt
    set_of (Some (k ∷ l ∷ ls)) x h = h

    pub seen_of : (t : Term) → Of (λ x. x < n) t → Of (λ x. x < n) (seen s D ws t)
    seen_of t b = still_of (λ x. x < n) (λ x. x < n) (λ y. by_set (set_at s D ws y) y) (λ y l. set_of (set_at s D ws y) y l) (apply s t) (still_of (λ x. x < n) (λ x. x < n) s unifier_of t b)

-- the variables of a term on P are of P
mutual
  pub variables_on : (P : ℕ → Type 0) (t : Term) → Of P t → (y : ℕ) → has (variables_of t) y ≡ true → P y
  variables_on P (Var x) b y h = elim (or_cases (x == y) false h) [ inl e ↦ subst P (eqb-true x y e) b | inr e ↦ absurd (true≢false (sym e)) ]
  variables_on P (Int z) b y h = absurd (true≢false (sym h))
  variables_on P (Atom a) b y h = absurd (true≢false (sym h))
  variables_on P (Comp f ts) b y h = all_variables_on P ts b y h

  all_variables_on : (P : ℕ → Type 0) (ts : Terms) → AllOf P ts → (y : ℕ) → has (variables_of_all ts) y ≡ true → P y
  all_variables_on P no_terms b y h = absurd (true≢false (sym h))
  all_variables_on P (term t ts) b y h = elim (has_either (variables_of t) (variables_of_all ts) y h) [ inl e ↦ variables_on P t b.0 y e | inr e ↦ all_variables_on P ts b.1 y e ]

-- what holds of a term under a substitution holds of what its variables become
mutual
  pub at_variable : (Q : ℕ → Type 0) (s : Substitution) (t : Term) → Of Q (apply s t) → (y : ℕ) → has (variables_of t) y ≡ true → Of Q (s y)
  at_variable Q s (Var x) b y h = elim (or_cases (x == y) false h) [ inl e ↦ subst (λ z. Of Q (s z)) (eqb-true x y e) b | inr e ↦ absurd (true≢false (sym e)) ]
  at_variable Q s (Int z) b y h = absurd (true≢false (sym h))
  at_variable Q s (Atom a) b y h = absurd (true≢false (sym h))
  at_variable Q s (Comp f ts) b y h = at_variables Q s ts b y h

  at_variables : (Q : ℕ → Type 0) (s : Substitution) (ts : Terms) → AllOf Q (apply_all s ts) → (y : ℕ) → has (variables_of_all ts) y ≡ true → Of Q (s y)
  at_variables Q s no_terms b y h = absurd (true≢false (sym h))
  at_variables Q s (term t ts) b y h = elim (has_either (variables_of t) (variables_of_all ts) y h) [ inl e ↦ at_variable Q s t b.0 y e | inr e ↦ at_variables Q s ts b.1 y e ]

-- a term seen variable by variable
pub seen_by_variable : (s : Substitution) (D : Family) (ws : List ℕ) (t : Term) → apply (λ v. seen s D ws (Var v)) t ≡ seen s D ws t
seen_by_variable s D ws t = after_is (λ y. by_set (set_at s D ws y) y) s t
