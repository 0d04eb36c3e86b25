-- Flat queries: constraints, and then one labelling of all variables.
use Rattle.std.specs.Prelude.{◌≡◌, ℕ, ◌<◌, ◌≤◌, ◌^◌, IsTrue, List, [], ◌∷◌, ◌++◌, length, Ok}
use Rattle.fd_model.specs.declared.kinds.Order.{Order}
use Rattle.fd_language.specs.Term.{Term}
use Rattle.fd_language.specs.Family.{has}
use Rattle.fd_language.specs.Range.{params}
use Rattle.fd_model.specs.Goal.{Goal, Post, Constrain, Label, Query}
use Rattle.fd_language.specs.Variables.{variables_of_all}
use Rattle.fd_model.specs.Labelling.{read_list, open_ones}
use Rattle.fd_model.specs.Members.{Member}
use Rattle.fd_model.specs.ConstraintExpansion.{arguments}
use Rattle.fd_model.specs.Satisfaction.{Assignment, InRange, Satisfies}
use Rattle.fd_model.specs.FlatConstraints.{is_place, is_flat_constraint}
use Rattle.fd_language.specs.Lists.{Each}

-- a range without parameters on a variable or an integer, or a flat constraint of at most 2^31 variables
abbrev pub IsFlatGoal : ℕ → ℕ → Goal → Type 0
IsFlatGoal M N (Post t r) = IsTrue (is_place t) × (params r ≡ [])
IsFlatGoal M N (Constrain kind t) = IsTrue (is_flat_constraint M N kind (arguments t)) × (length (variables_of_all (arguments t)) ≤ 2 ^ 31)
IsFlatGoal M N _ = ⊥

-- the assignment satisfies a goal of a flat query, where N is the greatest number that a variable may have
abbrev pub IsSatisfied : ℕ → ℕ → Assignment → Goal → Type 0
IsSatisfied M N a (Post t r) = InRange M N a t r
IsSatisfied M N a (Constrain kind t) = Satisfies N kind (arguments t) a
IsSatisfied M N a _ = ⊥

-- flat goals, and then a labelling of a closed list of variables and integers, in which every variable of the query stands
pub record IsFlat (M N : ℕ) (q : Query) (gs : List Goal) (o : Order) (ms : List Member) : Type 0 where
  pub list : Term
  pub goals : q.goals ≡ gs ++ Label o list ∷ []
  pub read : read_list list ≡ Ok ms
  pub flat : Each (IsFlatGoal M N) gs
  pub every : (x : ℕ) → x < q.variables → IsTrue (has (open_ones ms) x)
