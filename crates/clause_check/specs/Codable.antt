-- What the terms, the goals and the queries of a text's program are like, so that there is code for them.
use Rattle.std.specs.Prelude.{◌≡◌, ℕ, ◌≤◌, Bool, true, false, IsTrue, List, [], ◌∷◌, Some, None, slice_get}
use Rattle.fd_language.specs.Term.{Term, Terms, Var, Int, Atom, Comp, no_terms, term, term_count}
use Rattle.fd_model.specs.declared.kinds.BuiltinKind.{BuiltinKind}
use Rattle.fd_model.specs.declared.kinds.BuiltinKind.TheVariants as kind
use Rattle.fd_model.specs.Goal.{Goal, Goals, no_goals, goal, True, Fail, Unify, Post, Constrain, Label, Call, Either, Builtin, Cut, If, IfElse, Not, Best}
use Rattle.fd_model.specs.Goal.{Clause, Query, Program}
use Rattle.fd_model.specs.Refusals.{most_arguments}

-- each compound term has an argument, and 255 at most
abbrev mutual
  pub IsNarrow : Term → Type 0
  IsNarrow (Var x) = Unit {0}
  IsNarrow (Int z) = Unit {0}
  IsNarrow (Atom a) = Unit {0}
  IsNarrow (Comp f ts) = (1 ≤ term_count ts) × (term_count ts ≤ most_arguments) × AreNarrow ts

  pub AreNarrow : Terms → Type 0
  AreNarrow no_terms = Unit {0}
  AreNarrow (term t ts) = IsNarrow t × AreNarrow ts

-- neither true, fail, false nor =, which are goals of their own
abbrev pub is_named : BuiltinKind → Bool
is_named kind.True = false
is_named kind.Fail = false
is_named kind.False = false
is_named kind.Unify = false
is_named _ = true

abbrev mutual
  pub IsCodableGoal : Goal → Type 0
  IsCodableGoal True = Unit {0}
  IsCodableGoal Fail = Unit {0}
  IsCodableGoal (Unify s t) = IsNarrow s × IsNarrow t
  IsCodableGoal (Post t r) = IsNarrow t
  IsCodableGoal (Constrain c t) = IsNarrow t
  IsCodableGoal (Label o t) = IsNarrow t
  IsCodableGoal (Call t) = IsNarrow t
  IsCodableGoal (Either g h) = AreCodableGoals g × AreCodableGoals h
  IsCodableGoal (Builtin k t) = IsTrue (is_named k) × IsNarrow t
  -- a cut has no number before it is taken
  IsCodableGoal (Cut None) = Unit {0}
  IsCodableGoal (Cut (Some m)) = ⊥
  IsCodableGoal (If test holds) = AreCodableGoals test × AreCodableGoals holds
  IsCodableGoal (IfElse test holds other) = AreCodableGoals test × AreCodableGoals holds × AreCodableGoals other
  IsCodableGoal (Not gs) = AreCodableGoals gs
  IsCodableGoal (Best o least t c) = IsNarrow t × IsNarrow c

  pub AreCodableGoals : Goals → Type 0
  AreCodableGoals no_goals = Unit {0}
  AreCodableGoals (goal g gs) = IsCodableGoal g × AreCodableGoals gs

abbrev pub EachCodable : List Goal → Type 0
EachCodable [] = Unit {0}
EachCodable (g ∷ gs) = IsCodableGoal g × EachCodable gs

abbrev pub ClausesCodable : List Clause → Type 0
ClausesCodable [] = Unit {0}
ClausesCodable (c ∷ cs) = (IsNarrow c.head × EachCodable c.body) × ClausesCodable cs

-- no number stands twice
abbrev pub AreOnce : List ℕ → Type 0
AreOnce xs = (i j x : ℕ) → slice_get xs i ≡ Some x → slice_get xs j ≡ Some x → i ≡ j

abbrev pub QueriesCodable : List Query → Type 0
QueriesCodable [] = Unit {0}
QueriesCodable (q ∷ qs) = (AreOnce q.shown × EachCodable q.goals) × QueriesCodable qs

pub record IsCodable (prog : Program) : Type 0 where
  pub clauses : ClausesCodable prog.clauses
  pub queries : QueriesCodable prog.queries
