-- The variables of a branch stay below its next fresh number.
use Rattle.std.proofs.Common.{◌≡◌, ℕ, ◌<◌, ◌≤◌, cond, ltb, pos, List, [], ◌∷◌, ◌++◌, map, Option, Some, None, refl, ap, sym, ◌∙◌, inl, inr, arith, ltb-true}
use Rattle.std.proofs.Common.{ltb-false, lt-ltb, le-ltb}
use Rattle.std.proofs.lemmas.Bool.{cases_Bool}
use Rattle.fd_language.specs.Term.{Term, Terms, Var, Int, Atom, Comp, Substitution, apply, apply_all, no_terms, term, after}
use Rattle.fd_language.specs.Unifier.{Equation, IsMostGeneral, Unifies}
use Rattle.fd_language.specs.Family.{Family}
use Rattle.fd_model.specs.ClosedFamilies.{constrained}
use Rattle.fd_model.specs.Renaming.{rename_term, rename_goal, rename_goals}
use Rattle.fd_language.specs.Occurrences.{Occurrence, range_occurrences}
use Rattle.fd_model.specs.Goal.{Goal, Goals, no_goals, goal, listed, True, Fail, Unify, Post, Constrain, Label, Call, Either, Builtin, Cut, If, IfElse, Not}
use Rattle.fd_model.specs.Goal.{Best, marked, marked_goals, marked_all, Branch}
use Rattle.fd_language.specs.Variables.{TermBelow, TermsBelow}
use Rattle.fd_model.specs.RunnablePrograms.{OccurrencesBelow, GoalBelow, GoalsBelow, EachBelow}
use Rattle.fd_model.specs.BranchViews.{by_set, set_at}
use Rattle.fd_model.specs.Children.{look_in}
use Rattle.fd_model.proofs.GoalRows.{EquationsBelow}
use Rattle.fd_model.proofs.Lists.{each_map}
use Rattle.fd_language.proofs.Lemmas.{after_is, renamed_occurrences}
use Rattle.fd_model.proofs.SeenTerms.{wider}

-- terms under substitutions
module _ (k m : ℕ) (f : Substitution) (h : (x : ℕ) → x < k → TermBelow m (f x)) where
  mutual
    pub below_under : (t : Term) → TermBelow k t → TermBelow m (apply f t)
    below_under (Var x) b = h x b
    below_under (Int z) b = tt
    below_under (Atom a) b = tt
    below_under (Comp g ts) b = all_below_under ts b

    all_below_under : (ts : Terms) → TermsBelow k ts → TermsBelow m (apply_all f ts)
    all_below_under no_terms b = tt
    all_below_under (term t ts) b = (below_under t b.0, all_below_under ts b.1)

-- substitutions that agree below n
mutual
  agree : (n : ℕ) (s u : Substitution) → ((x : ℕ) → x < n → s x ≡ u x) → (t : Term) → TermBelow n t → apply s t ≡ apply u t
  agree n s u h (Var x) b = h x b
  agree n s u h (Int z) b = refl
  agree n s u h (Atom a) b = refl
  agree n s u h (Comp f ts) b = ap (Comp f) (agree_all n s u h ts b)

  agree_all : (n : ℕ) (s u : Substitution) → ((x : ℕ) → x < n → s x ≡ u x) → (ts : Terms) → TermsBelow n ts → apply_all s ts ≡ apply_all u ts
  agree_all n s u h no_terms b = refl
  agree_all n s u h (term t ts) b = let first = agree n s u h t b.0 in let rest = agree_all n s u h ts b.1 in cc

-- a most general unifier brings no new variables
module _ (n : ℕ) (es : List Equation) (s : Substitution) (g : IsMostGeneral es s) (below : EquationsBelow n es) where
  unfoldable ground : Substitution
  ground x = cond (ltb x n) (Var x) (Int (pos 0))

  unfoldable grounded : Substitution
  grounded x = cond (ltb x n) (apply ground (s x)) (Var x)

  grounded_low : (x : ℕ) → x < n → grounded x ≡ apply ground (s x)
  unfolding grounded
  grounded_low x h = rw (lt-ltb x n h) refl

  grounded_high : (x : ℕ) → n ≤ x → grounded x ≡ Var x
  unfolding grounded
  grounded_high x h = rw (le-ltb x n h) refl

  ground_high : (x : ℕ) → n ≤ x → ground x ≡ Int (pos 0)
  unfolding ground
  ground_high x h = rw (le-ltb x n h) refl

  grounded_term : (t : Term) → TermBelow n t → apply grounded t ≡ apply ground (apply s t)
  grounded_term t b = agree n grounded (after ground s) (λ x h. grounded_low x h) t b ∙ after_is ground s t

  grounded_unifies : (ds : List Equation) → EquationsBelow n ds → Unifies s ds → Unifies grounded ds
  grounded_unifies [] b h = tt
  grounded_unifies (d ∷ ds) b h = (grounded_term d.left b.0.0 ∙ ap (apply ground) h.0 ∙ sym (grounded_term d.right b.0.1), grounded_unifies ds b.1 h.1)

  mutual
    below_from : (t : Term) → apply grounded t ≡ apply ground t → TermBelow n t
    below_from (Var x) e = elim (cases_Bool (ltb x n)) [
      | inl k ↦ ltb-true x n k
      | inr k ↦ let l = ltb-false x n k in absurd (let i = sym (grounded_high x l) ∙ e ∙ ground_high x l in cc)
    ]
    below_from (Int z) e = tt
    below_from (Atom a) e = tt
    below_from (Comp f ts) e = all_below_from ts (let k : apply_all grounded ts ≡ apply_all ground ts = cc in k)

    all_below_from : (ts : Terms) → apply_all grounded ts ≡ apply_all ground ts → TermsBelow n ts
    all_below_from no_terms e = tt
    all_below_from (term t ts) e = (below_from t (let k : apply grounded t ≡ apply ground t = cc in k), all_below_from ts (let k : apply_all grounded ts ≡ apply_all ground ts = cc in k))

  pub unifier_below : (x : ℕ) → x < n → TermBelow n (s x)
  unifier_below x h = below_from (s x) (g.general grounded x (grounded_unifies es below g.unifies) ∙ grounded_low x h)

option_below : (n : ℕ) (o : Option (List ℕ)) (x : ℕ) → x < n → TermBelow n (by_set o x)
option_below n (Some (k ∷ [])) x h = tt
option_below n _ x h = h

-- what is seen in a branch
pub look_below : (n : ℕ) (b : Branch) (s : Substitution) (D : Family) → IsMostGeneral b.equations s → EquationsBelow n b.equations → (x : ℕ) → x < n → TermBelow n (look_in b s D x)
look_below n b s D g e x h = below_under n n (λ y. by_set (set_at s D (constrained b.posted) y) y)
    (λ y l. option_below n (set_at s D (constrained b.posted) y) y l) (s x) (unifier_below n b.equations s g e x h)

-- wider
pub equations_wider : (n m : ℕ) → n ≤ m → (es : List Equation) → EquationsBelow n es → EquationsBelow m es
equations_wider n m l es h = each_map (λ e. TermBelow n e.left × TermBelow n e.right) (λ e. TermBelow m e.left × TermBelow m e.right) (λ e k. (wider n m l e.left k.0, wider n m l e.right k.1)) es h

pub occurrences_wider : (n m : ℕ) → n ≤ m → (ps : List Occurrence) → OccurrencesBelow n ps → OccurrencesBelow m ps
occurrences_wider n m l ps h = each_map (λ p. p.variable < n) (λ p. p.variable < m) (λ p i. omega arith) ps h

mutual
  goal_wider : (n m : ℕ) → n ≤ m → (g : Goal) → GoalBelow n g → GoalBelow m g
  goal_wider n m l True h = tt
  goal_wider n m l Fail h = tt
  goal_wider n m l (Unify s t) h = (wider n m l s h.0, wider n m l t h.1)
  goal_wider n m l (Post t r) h = (wider n m l t h.0, occurrences_wider n m l (range_occurrences r) h.1)
  goal_wider n m l (Constrain c t) h = wider n m l t h
  goal_wider n m l (Label o t) h = wider n m l t h
  goal_wider n m l (Call t) h = wider n m l t h
  goal_wider n m l (Either g k) h = (goals_wider n m l g h.0, goals_wider n m l k h.1)
  goal_wider n m l (Builtin k t) h = wider n m l t h
  goal_wider n m l (Cut c) h = tt
  goal_wider n m l (If test holds) h = (goals_wider n m l test h.0, goals_wider n m l holds h.1)
  goal_wider n m l (IfElse test holds other) h = (goals_wider n m l test h.0, goals_wider n m l holds h.1, goals_wider n m l other h.2)
  goal_wider n m l (Not gs) h = goals_wider n m l gs h
  goal_wider n m l (Best o least t c) h = (wider n m l t h.0, wider n m l c h.1)

  goals_wider : (n m : ℕ) → n ≤ m → (gs : Goals) → GoalsBelow n gs → GoalsBelow m gs
  goals_wider n m l no_goals h = tt
  goals_wider n m l (goal g gs) h = (goal_wider n m l g h.0, goals_wider n m l gs h.1)

pub each_wider : (n m : ℕ) → n ≤ m → (gs : List Goal) → EachBelow n gs → EachBelow m gs
each_wider n m l [] h = tt
each_wider n m l (g ∷ gs) h = (goal_wider n m l g h.0, each_wider n m l gs h.1)

pub each_both_below : (n : ℕ) (gs hs : List Goal) → EachBelow n gs → EachBelow n hs → EachBelow n (gs ++ hs)
each_both_below n [] hs h k = k
each_both_below n (g ∷ gs) hs h k = (h.0, each_both_below n gs hs h.1 k)

pub listed_below : (n : ℕ) (gs : Goals) → GoalsBelow n gs → EachBelow n (listed gs)
listed_below n no_goals h = tt
listed_below n (goal g gs) h = (h.0, listed_below n gs h.1)

-- marking
mutual
  goal_marked : (n m : ℕ) (g : Goal) → GoalBelow n g → GoalBelow n (marked m g)
  goal_marked n m True h = h
  goal_marked n m Fail h = h
  goal_marked n m (Unify s t) h = h
  goal_marked n m (Post t r) h = h
  goal_marked n m (Constrain c t) h = h
  goal_marked n m (Label o t) h = h
  goal_marked n m (Call t) h = h
  goal_marked n m (Either g k) h = (goals_marked n m g h.0, goals_marked n m k h.1)
  goal_marked n m (Builtin k t) h = h
  goal_marked n m (Cut None) h = h
  goal_marked n m (Cut (Some c)) h = h
  goal_marked n m (If test holds) h = (h.0, goals_marked n m holds h.1)
  goal_marked n m (IfElse test holds other) h = (h.0, goals_marked n m holds h.1, goals_marked n m other h.2)
  goal_marked n m (Not gs) h = h
  goal_marked n m (Best o least t c) h = h

  goals_marked : (n m : ℕ) (gs : Goals) → GoalsBelow n gs → GoalsBelow n (marked_goals m gs)
  goals_marked n m no_goals h = tt
  goals_marked n m (goal g gs) h = (goal_marked n m g h.0, goals_marked n m gs h.1)

pub each_marked : (n m : ℕ) (gs : List Goal) → EachBelow n gs → EachBelow n (marked_all m gs)
each_marked n m [] h = tt
each_marked n m (g ∷ gs) h = (goal_marked n m g h.0, each_marked n m gs h.1)

-- renaming
module _ (k m : ℕ) (f : ℕ → ℕ) (h : (x : ℕ) → x < k → f x < m) where
  pub term_renamed : (t : Term) → TermBelow k t → TermBelow m (rename_term f t)
  term_renamed t b = below_under k m (λ x. Var (f x)) h t b

  mutual
    goal_renamed : (g : Goal) → GoalBelow k g → GoalBelow m (rename_goal f g)
    goal_renamed True b = tt
    goal_renamed Fail b = tt
    goal_renamed (Unify s t) b = (term_renamed s b.0, term_renamed t b.1)
    goal_renamed (Post t r) b = (term_renamed t b.0, renamed_occurrences (λ x. x < k) (λ x. x < m) f h r b.1)
    goal_renamed (Constrain c t) b = term_renamed t b
    goal_renamed (Label o t) b = term_renamed t b
    goal_renamed (Call t) b = term_renamed t b
    goal_renamed (Either x y) b = (goals_renamed x b.0, goals_renamed y b.1)
    goal_renamed (Builtin i t) b = term_renamed t b
    goal_renamed (Cut c) b = tt
    goal_renamed (If test holds) b = (goals_renamed test b.0, goals_renamed holds b.1)
    goal_renamed (IfElse test holds other) b = (goals_renamed test b.0, goals_renamed holds b.1, goals_renamed other b.2)
    goal_renamed (Not gs) b = goals_renamed gs b
    goal_renamed (Best o least t c) b = (term_renamed t b.0, term_renamed c b.1)

    goals_renamed : (gs : Goals) → GoalsBelow k gs → GoalsBelow m (rename_goals f gs)
    goals_renamed no_goals b = tt
    goals_renamed (goal g gs) b = (goal_renamed g b.0, goals_renamed gs b.1)

  pub body_renamed : (gs : List Goal) → EachBelow k gs → EachBelow m (map (rename_goal f) gs)
  body_renamed [] b = tt
  body_renamed (g ∷ gs) b = (goal_renamed g b.0, body_renamed gs b.1)
