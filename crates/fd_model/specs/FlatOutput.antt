-- What is written for flat queries.
use Rattle.std.specs.Prelude.{◌≡◌, ℕ, ◌+◌, ◌<◌, ◌≤◌, Bool, List, [], ◌∷◌, ◌++◌, map, Option, codes, decimal, ◌⊎◌}
use Rattle.fd_model.specs.declared.kinds.Order.{Order}
use Rattle.fd_model.specs.Goal.{Goal, Program, Query, Event, End}
use Rattle.fd_model.specs.RunnablePrograms.{QueriesScoped}
use Rattle.fd_language.specs.Term.{Term}
use Rattle.fd_model.specs.Lines.{line, event_bytes, events_bytes}
use Rattle.fd_model.specs.Output.{Queries, VerdictOutput}
use Rattle.fd_model.specs.Verdict.{Verdict, accepted, IsVerdict}
use Rattle.fd_model.specs.declared.Status.{Status}
use Rattle.fd_model.specs.declared.Status.TheVariants.{Done, Stopped}
use Rattle.fd_model.specs.Labelling.{open_ones}
use Rattle.fd_model.specs.Members.{Member}
use Rattle.fd_model.specs.Satisfaction.{Assignment}
use Rattle.fd_language.specs.Lists.{Each}
use Rattle.fd_model.specs.Answers.{Somewhere, InOrder}
use Rattle.fd_model.specs.FlatQueries.{IsFlat}
use Rattle.fd_model.specs.FlatBest.{IsFlatBest, AreBestEvents}
use Rattle.fd_model.specs.FlatLines.{assigned_line, IsLast, IsSatisfying, ComesFirst}

-- a line for each assignment, in which each shown variable has its number
abbrev pub assigned_lines : Query → List Assignment → List ℕ
assigned_lines q [] = []
assigned_lines q (a ∷ later) = line (assigned_line q a) ++ assigned_lines q later

-- The bytes of the n-th query, where it is flat: its first line; lines of assignments that satisfy its constraints, each once, in order; and the last line.
-- What has no line comes after all that have one, and there is none where the last line is `end`.
pub record IsFlatPart (M N : ℕ) (n : ℕ) (q : Query) (gs : List Goal) (o : Order) (vs : List ℕ) (out : List ℕ) : Type 0 where
  pub found : List Assignment
  pub last : Event
  pub bytes : out ≡ line (codes "query " ++ decimal n) ++ (assigned_lines q found ++ event_bytes last)
  pub ends : IsLast last
  pub satisfy : Each (IsSatisfying M N gs) found
  pub order : InOrder (ComesFirst o vs) found
  pub missing : (a : Assignment) → IsSatisfying M N gs a → Somewhere (λ c. map c vs ≡ map a vs) found ⊎ Each (λ c. ComesFirst o vs c a) found
  pub complete : last ≡ End → (a : Assignment) → IsSatisfying M N gs a → Somewhere (λ c. map c vs ≡ map a vs) found

-- The bytes of the n-th query, where it is flat and asks for the least or the greatest cost: its first line, and those of its events.
pub record IsBestPart (M N : ℕ) (prog : Program) (n : ℕ) (q : Query) (gs : List Goal) (o : Order) (least : Bool) (t r : Term) (vs : List ℕ) (c : Member) (out : List ℕ) : Type 0 where
  pub events : List Event
  pub bytes : out ≡ line (codes "query " ++ decimal n) ++ events_bytes events
  pub are : AreBestEvents M N prog q gs o least t r vs c events

-- the output is a part for each query, from the n-th on, and the parts of flat queries are as they should be
abbrev pub FlatParts : ℕ → ℕ → Program → ℕ → List Query → List ℕ → Type 0
FlatParts M N prog n [] out = out ≡ []
FlatParts M N prog n (q ∷ qs) out =
    (here : List ℕ) × (rest : List ℕ) × (out ≡ here ++ rest)
    × ((gs : List Goal) (o : Order) (ms : List Member) → IsFlat M N q gs o ms → IsFlatPart M N n q gs o (open_ones ms) here)
    × ((gs : List Goal) (o : Order) (least : Bool) (ms : List Member) (c : Member) (f : IsFlatBest M N q gs o least ms c) → IsBestPart M N prog n q gs o least f.list f.cost (open_ones ms) c here)
    × FlatParts M N prog (n + 1) qs rest

abbrev pub FlatOutput : Type 0
FlatOutput =
    (M N : ℕ) (prog : Program) (budget : ℕ) (answers : Option ℕ) (n : ℕ) (qs : List Query) (out : List ℕ) (stop : Bool)
    → 0 < N → N ≤ M → QueriesScoped qs → Queries M N prog budget answers n qs out stop → FlatParts M N prog n qs out

-- Where a text was answered, its output is a part for each of its queries, and the parts of flat queries are as they should be: with the budget and the limit
-- of answers, whatever they are.
abbrev pub FlatVerdict : Type 0
FlatVerdict =
    (M N : ℕ) (text : List ℕ) (v : Verdict) (budget : ℕ) (answers : Option ℕ) (out : List ℕ) (st : Status) → 0 < N → N ≤ M → IsVerdict M N text v
    → VerdictOutput M N v budget answers out st → (st ≡ Done) ⊎ (st ≡ Stopped) → (prog : Program) × (v ≡ accepted prog) × FlatParts M N prog 1 prog.queries out
