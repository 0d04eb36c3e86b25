-- How a query ends that is asked for one answer.
use Rattle.std.specs.Prelude.{◌≡◌, ℕ, List, [], ◌∷◌, Some}
use Rattle.fd_model.specs.Goal.{Goal, Program, Query, Event, Wrote, Newline, Answer, End, Budget, Limit, Fault, start_of}
use Rattle.fd_model.specs.Run.{Run}
use Rattle.reason_meaning.specs.FewerGoals.{with_goals}

-- with an answer, of which this is the line; without one; or stopped by the budget or a fault
pub data Outcome : Type 0 where
  answered : List ℕ → Outcome
  unanswered : Outcome
  stopped : Event → Outcome

-- What the events say: the first that is no text of a goal. Each run has one.
abbrev pub outcome : List Event → Outcome
outcome [] = stopped Limit
outcome (Wrote t ∷ es) = outcome es
outcome (Newline ∷ es) = outcome es
outcome (Answer l ∷ es) = answered l
outcome (End ∷ es) = unanswered
outcome (Budget ∷ es) = stopped Budget
outcome (Limit ∷ es) = stopped Limit
outcome (Fault f ∷ es) = stopped (Fault f)

-- The query with the goals gs has this outcome, where its run may take n goals. M is the greatest number of the universe, and N the greatest that a variable may have.
abbrev pub HasOutcome : ℕ → ℕ → ℕ → Program → Query → List Goal → Outcome → Type 0
HasOutcome M N n prog q gs o =
    (es : List Event) × (r : ℕ) × Run M N prog (with_goals q gs) n (Some 1) (start_of (with_goals q gs) ∷ []) es r × (outcome es ≡ o)
