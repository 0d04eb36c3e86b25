-- The answers and the events of a run of a flat query.
use Rattle.std.specs.Prelude.{◌≡◌, ℕ, ◌<◌, ◌≤◌, pos, List, [], ◌∷◌, ◌++◌, map, Option, ◌⊎◌}
use Rattle.fd_model.specs.declared.kinds.Order.{Order}
use Rattle.fd_language.specs.Term.{Int}
use Rattle.fd_model.specs.Goal.{Goal, Program, Query, Event, Answer, End, Budget, Limit, start_of}
use Rattle.fd_model.specs.RunnablePrograms.{NumbersBelow, EachBelow}
use Rattle.fd_model.specs.Lines.{line_of}
use Rattle.fd_model.specs.Labelling.{open_ones}
use Rattle.fd_model.specs.Members.{Member}
use Rattle.fd_model.specs.Run.{Run}
use Rattle.fd_model.specs.Satisfaction.{Assignment}
use Rattle.fd_language.specs.Lists.{Each}
use Rattle.fd_model.specs.Answers.{answers, EndsWith, Somewhere, InOrder, Comes, AreAnswers}
use Rattle.fd_model.specs.FlatQueries.{IsSatisfied, IsFlat}

-- the answer line in which each shown variable has its number
abbrev pub assigned_line : Query → Assignment → List ℕ
assigned_line q a = line_of (λ y. []) q.names (map (λ v. Int (pos (a v))) q.shown)

-- a run that no fault ended
abbrev pub IsLast : Event → Type 0
IsLast e = (e ≡ End) ⊎ ((e ≡ Budget) ⊎ (e ≡ Limit))

-- numbers up to N that satisfy each of the constraints
pub record IsSatisfying (M N : ℕ) (gs : List Goal) (a : Assignment) : Type 0 where
  pub bounded : (x : ℕ) → a x ≤ N
  pub each : Each (IsSatisfied M N a) gs

-- the one comes before the other, by the values of vs
abbrev pub ComesFirst : Order → List ℕ → Assignment → Assignment → Type 0
ComesFirst o vs a c = Comes o (map a vs) (map c vs)

-- The events are the lines of assignments that satisfy the constraints, each once, in order, and an end that is no fault; an assignment that satisfies them and
-- has no line comes after all that have one, and there is none where the end is End.
pub record AreFlatEvents (M N : ℕ) (q : Query) (gs : List Goal) (o : Order) (vs : List ℕ) (es : List Event) : Type 0 where
  pub found : List Assignment
  pub last : Event
  pub events : es ≡ map (λ a. Answer (assigned_line q a)) found ++ last ∷ []
  pub ends : IsLast last
  pub satisfy : Each (IsSatisfying M N gs) found
  pub order : InOrder (ComesFirst o vs) found
  pub missing : (a : Assignment) → IsSatisfying M N gs a → Somewhere (λ c. map c vs ≡ map a vs) found ⊎ Each (λ c. ComesFirst o vs c a) found
  pub complete : last ≡ End → (a : Assignment) → IsSatisfying M N gs a → Somewhere (λ c. map c vs ≡ map a vs) found

-- ns are the values of vs under an assignment that satisfies all constraints
abbrev pub IsAssigned : ℕ → ℕ → List Goal → List ℕ → List ℕ → Type 0
IsAssigned M N gs vs ns = (a : Assignment) × ((x : ℕ) → a x ≤ N) × Each (IsSatisfied M N a) gs × (ns ≡ map a vs)

-- The answers of a flat query are the assignments of its variables that satisfy its constraints.
abbrev pub FlatAnswers : Type 0
FlatAnswers =
    (M N : ℕ) (prog : Program) (q : Query) (n : ℕ) (k : Option ℕ) (es : List Event) (r : ℕ) (gs : List Goal) (o : Order) (ms : List Member)
    → 0 < N → N ≤ M → EachBelow q.variables q.goals → IsFlat M N q gs o ms → (run : Run M N prog q n k (start_of q ∷ []) es r)
    → AreAnswers M N o (open_ones ms) (IsAssigned M N gs (open_ones ms)) (answers run) (EndsWith End es)

-- The events of its run are the lines of these.
abbrev pub FlatEvents : Type 0
FlatEvents =
    (M N : ℕ) (prog : Program) (q : Query) (n : ℕ) (k : Option ℕ) (es : List Event) (r : ℕ) (gs : List Goal) (o : Order) (ms : List Member)
    → 0 < N → N ≤ M → EachBelow q.variables q.goals → NumbersBelow q.variables q.shown → IsFlat M N q gs o ms
    → Run M N prog q n k (start_of q ∷ []) es r → AreFlatEvents M N q gs o (open_ones ms) es
