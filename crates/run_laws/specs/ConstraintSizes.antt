-- How many variables occur in the constraints of goals and of programs.
use Rattle.std.specs.Prelude.{ℕ, ◌≤◌, length}
use Rattle.fd_language.specs.Variables.{variables_of}
use Rattle.fd_language.specs.Lists.{Each}
use Rattle.fd_model.specs.Goal.{Goal, Goals, no_goals, goal, True, Fail, Unify, Post, Constrain, Label, Call, Either, Builtin, Cut, If, IfElse, Not, Best}
use Rattle.fd_model.specs.Goal.{Program}

-- each constraint in the goal, however deep it stands, has at most n occurrences of variables
abbrev mutual
  pub IsSmall : ℕ → Goal → Type 0
  IsSmall n True = Unit {0}
  IsSmall n Fail = Unit {0}
  IsSmall n (Unify s t) = Unit {0}
  IsSmall n (Post t r) = Unit {0}
  IsSmall n (Constrain c t) = length (variables_of t) ≤ n
  IsSmall n (Label o t) = Unit {0}
  IsSmall n (Call t) = Unit {0}
  IsSmall n (Either g h) = AreSmall n g × AreSmall n h
  IsSmall n (Builtin k t) = Unit {0}
  IsSmall n (Cut c) = Unit {0}
  IsSmall n (If test holds) = AreSmall n test × AreSmall n holds
  IsSmall n (IfElse test holds other) = AreSmall n test × AreSmall n holds × AreSmall n other
  IsSmall n (Not gs) = AreSmall n gs
  IsSmall n (Best o least t c) = Unit {0}

  pub AreSmall : ℕ → Goals → Type 0
  AreSmall n no_goals = Unit {0}
  AreSmall n (goal g gs) = IsSmall n g × AreSmall n gs

-- each constraint in the clauses and queries has at most n
pub record HasSmallConstraints (n : ℕ) (prog : Program) : Type 0 where
  pub clauses : Each (λ c. Each (IsSmall n) c.body) prog.clauses
  pub queries : Each (λ q. Each (IsSmall n) q.goals) prog.queries
