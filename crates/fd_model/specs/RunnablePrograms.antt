-- Programs that can run: what their goals need so that each branch has its children.
use Rattle.std.specs.Prelude.{ℕ, ◌<◌, true, IsTrue, List, [], ◌∷◌}
use Rattle.fd_language.specs.Lists.{Each}
use Rattle.fd_language.specs.Range.{Range}
use Rattle.fd_language.specs.Check.{range_fits}
use Rattle.fd_language.specs.Occurrences.{Occurrence, range_occurrences}
use Rattle.fd_model.specs.Goal.{Goal, Goals, no_goals, goal, True, Fail, Unify, Post, Constrain, Label, Call, Either, Builtin, Cut, If, IfElse, Not, Best}
use Rattle.fd_model.specs.Goal.{Clause, Query, Program}
use Rattle.fd_language.specs.Variables.{TermBelow}

-- its ranges are accepted
abbrev mutual
  pub IsRunnable : ℕ → Goal → Type 0
  IsRunnable M True = Unit {0}
  IsRunnable M Fail = Unit {0}
  IsRunnable M (Unify s t) = Unit {0}
  IsRunnable M (Post t r) = IsTrue (range_fits M r true)
  IsRunnable M (Constrain c t) = Unit {0}
  IsRunnable M (Label o t) = Unit {0}
  IsRunnable M (Call t) = Unit {0}
  IsRunnable M (Either g h) = AllRunnable M g × AllRunnable M h
  IsRunnable M (Builtin k t) = Unit {0}
  IsRunnable M (Cut c) = Unit {0}
  IsRunnable M (If test holds) = AllRunnable M test × AllRunnable M holds
  IsRunnable M (IfElse test holds other) = AllRunnable M test × AllRunnable M holds × AllRunnable M other
  IsRunnable M (Not gs) = AllRunnable M gs
  IsRunnable M (Best o least t c) = Unit {0}

  pub AllRunnable : ℕ → Goals → Type 0
  AllRunnable M no_goals = Unit {0}
  AllRunnable M (goal g gs) = IsRunnable M g × AllRunnable M gs

abbrev pub AreRunnable : ℕ → List Goal → Type 0
AreRunnable M [] = Unit {0}
AreRunnable M (g ∷ gs) = IsRunnable M g × AreRunnable M gs

abbrev pub ClausesRunnable : ℕ → List Clause → Type 0
ClausesRunnable M [] = Unit {0}
ClausesRunnable M (c ∷ cs) = AreRunnable M c.body × ClausesRunnable M cs

abbrev pub QueriesRunnable : ℕ → List Query → Type 0
QueriesRunnable M [] = Unit {0}
QueriesRunnable M (q ∷ qs) = AreRunnable M q.goals × QueriesRunnable M qs

pub record IsRunnableProgram (M : ℕ) (prog : Program) : Type 0 where
  pub clauses : ClausesRunnable M prog.clauses
  pub queries : QueriesRunnable M prog.queries

-- the variables of a range or a goal are below n
abbrev pub OccurrencesBelow : ℕ → List Occurrence → Type 0
OccurrencesBelow n ps = Each (λ p. p.variable < n) ps

abbrev pub RangeBelow : ℕ → Range → Type 0
RangeBelow n r = OccurrencesBelow n (range_occurrences r)

abbrev mutual
  pub GoalBelow : ℕ → Goal → Type 0
  GoalBelow n True = Unit {0}
  GoalBelow n Fail = Unit {0}
  GoalBelow n (Unify s t) = TermBelow n s × TermBelow n t
  GoalBelow n (Post t r) = TermBelow n t × RangeBelow n r
  GoalBelow n (Constrain c t) = TermBelow n t
  GoalBelow n (Label o t) = TermBelow n t
  GoalBelow n (Call t) = TermBelow n t
  GoalBelow n (Either g h) = GoalsBelow n g × GoalsBelow n h
  GoalBelow n (Builtin k t) = TermBelow n t
  GoalBelow n (Cut c) = Unit {0}
  GoalBelow n (If test holds) = GoalsBelow n test × GoalsBelow n holds
  GoalBelow n (IfElse test holds other) = GoalsBelow n test × GoalsBelow n holds × GoalsBelow n other
  GoalBelow n (Not gs) = GoalsBelow n gs
  GoalBelow n (Best o least t c) = TermBelow n t × TermBelow n c

  pub GoalsBelow : ℕ → Goals → Type 0
  GoalsBelow n no_goals = Unit {0}
  GoalsBelow n (goal g gs) = GoalBelow n g × GoalsBelow n gs

abbrev pub EachBelow : ℕ → List Goal → Type 0
EachBelow n [] = Unit {0}
EachBelow n (g ∷ gs) = GoalBelow n g × EachBelow n gs

abbrev pub NumbersBelow : ℕ → List ℕ → Type 0
NumbersBelow n [] = Unit {0}
NumbersBelow n (x ∷ xs) = (x < n) × NumbersBelow n xs

abbrev pub ClausesScoped : List Clause → Type 0
ClausesScoped [] = Unit {0}
ClausesScoped (c ∷ cs) = (TermBelow c.variables c.head × EachBelow c.variables c.body) × ClausesScoped cs

abbrev pub QueriesScoped : List Query → Type 0
QueriesScoped [] = Unit {0}
QueriesScoped (q ∷ qs) = (NumbersBelow q.variables q.shown × EachBelow q.variables q.goals) × QueriesScoped qs

-- each clause and each query has as many variables as it says
pub record IsScoped (prog : Program) : Type 0 where
  pub clauses : ClausesScoped prog.clauses
  pub queries : QueriesScoped prog.queries
