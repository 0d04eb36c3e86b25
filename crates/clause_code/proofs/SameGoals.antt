-- Goals whose variables keep their names.
use Rattle.std.proofs.Common.{◌≡◌, ℕ, List, [], ◌∷◌, map, refl, ap, ◌∙◌}
use Rattle.fd_language.proofs.Lemmas.{two, apply_vars, renamed_as_is}
use Rattle.fd_model.specs.Goal.{Goal, Goals, no_goals, goal, True, Fail, Unify, Post, Constrain, Label, Call, Either, Builtin, Cut, If, IfElse, Not, Best}
use Rattle.fd_model.specs.Renaming.{rename_goal, rename_goals}

abbrev itself : ℕ → ℕ
itself x = x

mutual
  same_goal : (g : Goal) → rename_goal itself g ≡ g
  same_goal True = refl
  same_goal Fail = refl
  same_goal (Unify a b) = two Unify (apply_vars a) (apply_vars b)
  same_goal (Post t r) = two Post (apply_vars t) (renamed_as_is r)
  same_goal (Constrain c t) = ap (Constrain c) (apply_vars t)
  same_goal (Label o t) = ap (Label o) (apply_vars t)
  same_goal (Call t) = ap Call (apply_vars t)
  same_goal (Either a b) = two Either (same_goals a) (same_goals b)
  same_goal (Builtin b t) = ap (Builtin b) (apply_vars t)
  same_goal (Cut c) = refl
  same_goal (If test holds) = two If (same_goals test) (same_goals holds)
  same_goal (IfElse test holds other) = two (λ x y. IfElse x y (rename_goals itself other)) (same_goals test) (same_goals holds) ∙ ap (IfElse test holds) (same_goals other)
  same_goal (Not gs) = ap Not (same_goals gs)
  same_goal (Best o least t c) = two (Best o least) (apply_vars t) (apply_vars c)

  same_goals : (gs : Goals) → rename_goals itself gs ≡ gs
  same_goals no_goals = refl
  same_goals (goal g gs) = two goal (same_goal g) (same_goals gs)

pub goals_identity : (gs : List Goal) → map (rename_goal (λ x. x)) gs ≡ gs
goals_identity [] = refl
goals_identity (g ∷ gs) = two (λ h hs. h ∷ hs) (same_goal g) (goals_identity gs)
