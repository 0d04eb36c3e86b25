-- Flat queries of texts: constraints of any number of variables, and then one labelling of all variables.
use Rattle.std.specs.Prelude.{◌≡◌, ℕ, ◌+◌, ◌<◌, Bool, IsTrue, List, [], ◌∷◌, ◌++◌, Ok, None}
use Rattle.fd_model.specs.declared.kinds.Order.{Order}
use Rattle.fd_language.specs.Term.{Term}
use Rattle.fd_language.specs.Family.{has}
use Rattle.fd_language.specs.Lists.{Each}
use Rattle.fd_language.specs.Range.{params}
use Rattle.fd_model.specs.Goal.{Goal, Post, Constrain, Label, Best, Program, Query}
use Rattle.fd_model.specs.Children.{cost_fault}
use Rattle.fd_model.specs.Labelling.{read_list, open_ones}
use Rattle.fd_model.specs.Members.{Member, as_member}
use Rattle.fd_model.specs.ConstraintExpansion.{arguments}
use Rattle.fd_model.specs.FlatConstraints.{is_place, is_flat_constraint}
use Rattle.fd_model.specs.FlatOutput.{IsFlatPart, IsBestPart}

-- a range without parameters on a variable or an integer, or a flat constraint
abbrev pub IsFlatTextGoal : ℕ → ℕ → Goal → Type 0
IsFlatTextGoal M N (Post t r) = IsTrue (is_place t) × (params r ≡ [])
IsFlatTextGoal M N (Constrain kind t) = IsTrue (is_flat_constraint M N kind (arguments t))
IsFlatTextGoal M N _ = ⊥

-- flat goals, and then a labelling of a closed list of variables and integers, in which every variable of the query stands
pub record IsFlatText (M N : ℕ) (q : Query) (gs : List Goal) (o : Order) (ms : List Member) : Type 0 where
  pub list : Term
  pub goals : q.goals ≡ gs ++ Label o list ∷ []
  pub read : read_list list ≡ Ok ms
  pub flat : Each (IsFlatTextGoal M N) gs
  pub every : (x : ℕ) → x < q.variables → IsTrue (has (open_ones ms) x)

-- Flat goals, and then a search for the best leaf of the labelling of a closed list of variables and integers, in which every variable of the query stands. The
-- cost is a member of the list or an integer.
pub record IsFlatTextBest (M N : ℕ) (q : Query) (gs : List Goal) (o : Order) (least : Bool) (ms : List Member) (c : Member) : Type 0 where
  pub list : Term
  pub cost : Term
  pub goals : q.goals ≡ gs ++ Best o least list cost ∷ []
  pub read : read_list list ≡ Ok ms
  pub member : as_member cost ≡ Ok c
  pub listed : cost_fault ms cost ≡ None
  pub flat : Each (IsFlatTextGoal M N) gs
  pub every : (x : ℕ) → x < q.variables → IsTrue (has (open_ones ms) x)

-- the output is a part for each query, from the n-th on, and the parts of flat queries are as they should be
abbrev pub FlatTextParts : ℕ → ℕ → Program → ℕ → List Query → List ℕ → Type 0
FlatTextParts M N prog n [] out = out ≡ []
FlatTextParts M N prog n (q ∷ qs) out =
    (here : List ℕ) × (rest : List ℕ) × (out ≡ here ++ rest)
    × ((gs : List Goal) (o : Order) (ms : List Member) → IsFlatText M N q gs o ms → IsFlatPart M N n q gs o (open_ones ms) here)
    × ((gs : List Goal) (o : Order) (least : Bool) (ms : List Member) (c : Member) (f : IsFlatTextBest M N q gs o least ms c) → IsBestPart M N prog n q gs o least f.list f.cost (open_ones ms) c here)
    × FlatTextParts M N prog (n + 1) qs rest
