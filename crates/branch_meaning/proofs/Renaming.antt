-- Goals under renamings, and the variables that stand in them.
use Rattle.std.proofs.Common.{◌≡◌, ℕ, ◌<◌, List, [], ◌∷◌, map, refl, ap, sym}
use Rattle.fd_language.specs.Term.{Term, Terms, Var, Int, Atom, Comp, no_terms, term}
use Rattle.fd_language.specs.Range.{Range}
use Rattle.fd_language.specs.RangeRenaming.{rename_range, renaming}
use Rattle.fd_model.specs.Renaming.{rename_term, rename_goal, rename_goals}
use Rattle.fd_language.specs.Occurrences.{Occurrence, range_occurrences}
use Rattle.fd_model.specs.Goal.{Goal, Goals, no_goals, goal, True, Fail, Unify, Post, Constrain, Label, Call, Either, Builtin, Cut, If, IfElse, Not, Best}
use Rattle.fd_language.specs.Variables.{TermBelow, TermsBelow}
use Rattle.fd_model.specs.RunnablePrograms.{OccurrencesBelow, GoalBelow, GoalsBelow, EachBelow}
use Rattle.fd_language.proofs.Lemmas.{two, after_is, each_map, new_twice, renamed_agree}
use Rattle.branch_meaning.specs.Heap.{Of, AllOf}
use Rattle.branch_meaning.proofs.HeapExtension.{agree}

-- the two ways to say that a term's variables are below n
mutual
  pub of_below : (n : ℕ) (t : Term) → TermBelow n t → Of (λ x. x < n) t
  of_below n (Var x) b = b
  of_below n (Int z) b = tt
  of_below n (Atom a) b = tt
  of_below n (Comp f ts) b = of_all n ts b

  pub of_all : (n : ℕ) (ts : Terms) → TermsBelow n ts → AllOf (λ x. x < n) ts
  of_all n no_terms b = tt
  of_all n (term t ts) b = (of_below n t b.0, of_all n ts b.1)

mutual
  pub below_of : (n : ℕ) (t : Term) → Of (λ x. x < n) t → TermBelow n t
  below_of n (Var x) b = b
  below_of n (Int z) b = tt
  below_of n (Atom a) b = tt
  below_of n (Comp f ts) b = below_all n ts b

  below_all : (n : ℕ) (ts : Terms) → AllOf (λ x. x < n) ts → TermsBelow n ts
  below_all n no_terms b = tt
  below_all n (term t ts) b = (below_of n t b.0, below_all n ts b.1)

-- a renaming after another
module _ (f g : ℕ → ℕ) where
  pub term_twice : (t : Term) → rename_term f (rename_term g t) ≡ rename_term (λ x. f (g x)) t
  term_twice t = sym (after_is (λ x. Var (f x)) (λ x. Var (g x)) t)

  pub range_twice : (r : Range) → rename_range f (rename_range g r) ≡ rename_range (λ x. f (g x)) r
  range_twice r = new_twice (renaming f) (renaming g) r

  mutual
    goal_twice : (a : Goal) → rename_goal f (rename_goal g a) ≡ rename_goal (λ x. f (g x)) a
    goal_twice True = refl
    goal_twice Fail = refl
    goal_twice (Unify a b) = two Unify (term_twice a) (term_twice b)
    goal_twice (Post t r) = two Post (term_twice t) (range_twice r)
    goal_twice (Constrain c t) = ap (Constrain c) (term_twice t)
    goal_twice (Label o t) = ap (Label o) (term_twice t)
    goal_twice (Call t) = ap Call (term_twice t)
    goal_twice (Either a b) = two Either (goals_twice a) (goals_twice b)
    goal_twice (Builtin b t) = ap (Builtin b) (term_twice t)
    goal_twice (Cut c) = refl
    goal_twice (If a b) = two If (goals_twice a) (goals_twice b)
    goal_twice (IfElse a b c) = let i = goals_twice a in let j = goals_twice b in let k = goals_twice c in cc
    goal_twice (Not a) = ap Not (goals_twice a)
    goal_twice (Best o least t c) = two (Best o least) (term_twice t) (term_twice c)

    goals_twice : (as' : Goals) → rename_goals f (rename_goals g as') ≡ rename_goals (λ x. f (g x)) as'
    goals_twice no_goals = refl
    goals_twice (goal a as') = two goal (goal_twice a) (goals_twice as')

-- renamings that agree on the variables
module _ (n : ℕ) (f g : ℕ → ℕ) (h : (x : ℕ) → x < n → f x ≡ g x) where
  pub term_agree : (t : Term) → TermBelow n t → rename_term f t ≡ rename_term g t
  term_agree t b = agree (λ x. x < n) (λ x. Var (f x)) (λ x. Var (g x)) (λ x l. ap Var (h x l)) t (of_below n t b)

  pub range_agree : (r : Range) → OccurrencesBelow n (range_occurrences r) → rename_range f r ≡ rename_range g r
  range_agree r b = renamed_agree f g r (each_map (λ (p : Occurrence). p.variable < n) (λ p. f p.variable ≡ g p.variable) (λ p l. h p.variable l) (range_occurrences r) b)

  mutual
    goal_agree : (a : Goal) → GoalBelow n a → rename_goal f a ≡ rename_goal g a
    goal_agree True b = refl
    goal_agree Fail b = refl
    goal_agree (Unify s t) b = two Unify (term_agree s b.0) (term_agree t b.1)
    goal_agree (Post t r) b = two Post (term_agree t b.0) (range_agree r b.1)
    goal_agree (Constrain c t) b = ap (Constrain c) (term_agree t b)
    goal_agree (Label o t) b = ap (Label o) (term_agree t b)
    goal_agree (Call t) b = ap Call (term_agree t b)
    goal_agree (Either s t) b = two Either (goals_agree s b.0) (goals_agree t b.1)
    goal_agree (Builtin c t) b = ap (Builtin c) (term_agree t b)
    goal_agree (Cut c) b = refl
    goal_agree (If s t) b = two If (goals_agree s b.0) (goals_agree t b.1)
    goal_agree (IfElse s t u) b = let i = goals_agree s b.0 in let j = goals_agree t b.1 in let k = goals_agree u b.2 in cc
    goal_agree (Not s) b = ap Not (goals_agree s b)
    goal_agree (Best o least t c) b = two (Best o least) (term_agree t b.0) (term_agree c b.1)

    goals_agree : (as' : Goals) → GoalsBelow n as' → rename_goals f as' ≡ rename_goals g as'
    goals_agree no_goals b = refl
    goals_agree (goal a as') b = two goal (goal_agree a b.0) (goals_agree as' b.1)

  pub list_agree : (as' : List Goal) → EachBelow n as' → map (rename_goal f) as' ≡ map (rename_goal g) as'
  list_agree [] b = refl
  list_agree (a ∷ as') b = two (λ x y. x ∷ y) (goal_agree a b.0) (list_agree as' b.1)
