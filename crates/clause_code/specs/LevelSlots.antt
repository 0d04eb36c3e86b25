-- Goals for whose cuts and tests there are level slots.
use Rattle.std.specs.Prelude.{◌≡◌, ℕ, suc, ◌+◌, ◌-◌, ◌<◌, ◌≤◌, max, List, [], ◌∷◌, length, slice_index_or}
use Rattle.fd_model.specs.Goal.{Goal, Goals, no_goals, goal, Either, Cut, If, IfElse, Not}
use Rattle.clause_check.specs.Programs.{FlatProgram, goal_at, goal_in}
use Rattle.clause_code.specs.Bodies.{Levels, HasCut, in_test}

-- A cut has a slot to go to, and a test two more slots.
abbrev pub HasRoom : Levels → Type 0
HasRoom l = HasCut l × (suc (suc l.next) ≤ l.end)

abbrev mutual
  pub FitsGoal : Levels → Goal → Type 0
  FitsGoal l (Either g h) = AllFit l g × AllFit l h
  FitsGoal l (Cut c) = HasCut l
  FitsGoal l (If test holds) = HasRoom l × AllFit (in_test l l.next) test × AllFit l holds
  FitsGoal l (IfElse test holds other) = HasRoom l × AllFit (in_test l (suc l.next)) test × AllFit l holds × AllFit l other
  FitsGoal l (Not gs) = HasRoom l × AllFit (in_test l (suc l.next)) gs
  FitsGoal l _ = Unit {0}

  pub AllFit : Levels → Goals → Type 0
  AllFit l no_goals = Unit {0}
  AllFit l (goal g gs) = FitsGoal l g × AllFit l gs

abbrev pub EachFits : Levels → List Goal → Type 0
EachFits l [] = Unit {0}
EachFits l (g ∷ gs) = FitsGoal l g × EachFits l gs

-- ---- how many level slots goals need

-- a cut one, and a test two more than its own goals, whose cuts go to one of the two
abbrev mutual
  pub need : Goal → ℕ
  need (Either g h) = max (needs g) (needs h)
  need (Cut c) = 1
  need (If test holds) = max (3 + (needs test - 1)) (needs holds)
  need (IfElse test holds other) = max (3 + (needs test - 1)) (max (needs holds) (needs other))
  need (Not gs) = 3 + (needs gs - 1)
  need _ = 0

  pub needs : Goals → ℕ
  needs no_goals = 0
  needs (goal g gs) = max (need g) (needs gs)

abbrev pub each_need : List Goal → ℕ
each_need [] = 0
each_need (g ∷ gs) = max (need g) (each_need gs)

-- what each of the first so many goals needs, by their numbers
pub record AreNeeds (p : FlatProgram) (count : ℕ) (ns : List ℕ) : Type 0 where
  pub long : length ns ≡ count
  pub each : (i : ℕ) → i < count → slice_index_or ns i 0 ≡ need (goal_in p (goal_at p i))
