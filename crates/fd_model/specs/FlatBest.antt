-- Flat queries that ask for the least or the greatest cost, their answers and their events.
use Rattle.std.specs.Prelude.{◌≡◌, ℕ, ◌<◌, ◌≤◌, Bool, IsTrue, ℤ, pos, List, [], ◌∷◌, ◌++◌, map, Option, None, ◌⊎◌, Ok}
use Rattle.fd_model.specs.declared.kinds.Order.{Order}
use Rattle.fd_language.specs.Term.{Term}
use Rattle.fd_language.specs.Family.{has}
use Rattle.fd_language.specs.Lists.{Each}
use Rattle.fd_model.specs.Goal.{Goal, Label, Best, Branch, Program, Query, Event, Answer, End, start_of}
use Rattle.fd_model.specs.RunnablePrograms.{NumbersBelow, EachBelow}
use Rattle.fd_model.specs.Children.{with_goals, cost_fault}
use Rattle.fd_model.specs.Labelling.{read_list, open_ones}
use Rattle.fd_model.specs.Leaves.{IsAsGood}
use Rattle.fd_model.specs.Members.{Member, Open, Known, as_member}
use Rattle.fd_model.specs.Run.{Run}
use Rattle.fd_model.specs.Satisfaction.{Assignment}
use Rattle.fd_model.specs.Answers.{answers, EndsWith}
use Rattle.fd_model.specs.FlatQueries.{IsFlatGoal}
use Rattle.fd_model.specs.FlatLines.{assigned_line, IsLast, IsSatisfying, ComesFirst, IsAssigned}
use Rattle.fd_model.specs.Ways.{Way}
use Rattle.fd_model.specs.BestAnswers.{cost_in, IsBestAnswer, AreBestAnswers}

-- Flat goals, and then a search for the best leaf of the labelling of a closed list of variables and integers, in which every variable of the query stands. The
-- cost is a member of the list or an integer.
pub record IsFlatBest (M N : ℕ) (q : Query) (gs : List Goal) (o : Order) (least : Bool) (ms : List Member) (c : Member) : Type 0 where
  pub list : Term
  pub cost : Term
  pub goals : q.goals ≡ gs ++ Best o least list cost ∷ []
  pub read : read_list list ≡ Ok ms
  pub member : as_member cost ≡ Ok c
  pub listed : cost_fault ms cost ≡ None
  pub flat : Each (IsFlatGoal M N) gs
  pub every : (x : ℕ) → x < q.variables → IsTrue (has (open_ones ms) x)

-- The branch in which the labelling starts: a way leads to it, but for its goal.
abbrev pub IsStart : ℕ → ℕ → Program → Query → Order → Bool → Term → Term → Branch → Type 0
IsStart M N prog q o least t r d = (b : Branch) × (ws : List ℕ) × Way M N prog q b ws × (b.goals ≡ Best o least t r ∷ []) × (d ≡ with_goals b (Label o t ∷ []))

-- Its answer gives the variables the best of the assignments that satisfy its constraints, the first of these in labelling order.
abbrev pub FlatBest : Type 0
FlatBest =
    (M N : ℕ) (prog : Program) (q : Query) (n : ℕ) (k : Option ℕ) (es : List Event) (r : ℕ) (gs : List Goal) (o : Order) (least : Bool) (ms : List Member) (c : Member)
    → 0 < N → N ≤ M → EachBelow q.variables q.goals → (f : IsFlatBest M N q gs o least ms c) → (run : Run M N prog q n k (start_of q ∷ []) es r)
    → AreBestAnswers M N o least f.list (open_ones ms) (cost_in (open_ones ms) c) (IsAssigned M N gs (open_ones ms)) (IsStart M N prog q o least f.list f.cost) (answers run) (EndsWith End es)

-- the cost of an assignment
abbrev pub cost_at : Assignment → Member → ℤ
cost_at a (Open x) = pos (a x)
cost_at a (Known z) = z

-- One line, and an end that is no fault. The line is that of an assignment that satisfies the constraints, of which none costs less than it, or none more where
-- the greatest cost is wanted; and each that costs the same comes after it in labelling order, or gives the listed variables the same numbers. Among the
-- leaves, in their order, it is the first of these.
pub record IsBestLine (M N : ℕ) (prog : Program) (q : Query) (gs : List Goal) (o : Order) (least : Bool) (t r : Term) (vs : List ℕ) (c : Member) (es : List Event) : Type 0 where
  pub found : Assignment
  pub last : Event
  pub events : es ≡ Answer (assigned_line q found) ∷ last ∷ []
  pub ends : IsLast last
  pub satisfies : IsSatisfying M N gs found
  pub best : (a : Assignment) → IsSatisfying M N gs a → IsAsGood least (cost_at found c) (cost_at a c)
  pub first : (a : Assignment) → IsSatisfying M N gs a → (cost_at a c ≡ cost_at found c) → (map a vs ≡ map found vs) ⊎ ComesFirst o vs found a
  pub answered : List Branch
  pub answer : IsBestAnswer M N o least t vs (cost_in vs c) (IsAssigned M N gs vs) (IsStart M N prog q o least t r) answered
  pub numbers : answer.numbers ≡ map found vs

-- Or an end alone; where it is End, no assignment satisfies the constraints.
abbrev pub AreBestEvents : ℕ → ℕ → Program → Query → List Goal → Order → Bool → Term → Term → List ℕ → Member → List Event → Type 0
AreBestEvents M N prog q gs o least t r vs c es =
    IsBestLine M N prog q gs o least t r vs c es ⊎ ((last : Event) × (es ≡ last ∷ []) × IsLast last × (last ≡ End → (a : Assignment) → IsSatisfying M N gs a → ⊥))

abbrev pub FlatBestEvents : Type 0
FlatBestEvents =
    (M N : ℕ) (prog : Program) (q : Query) (n : ℕ) (k : Option ℕ) (es : List Event) (r : ℕ) (gs : List Goal) (o : Order) (least : Bool) (ms : List Member) (c : Member)
    → 0 < N → N ≤ M → EachBelow q.variables q.goals → NumbersBelow q.variables q.shown → (f : IsFlatBest M N q gs o least ms c)
    → Run M N prog q n k (start_of q ∷ []) es r → AreBestEvents M N prog q gs o least f.list f.cost (open_ones ms) c es
