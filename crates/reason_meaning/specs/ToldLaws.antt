-- The statements of the laws on what is told of a query.
use Rattle.std.specs.Prelude.{◌≡◌, ℕ, ◌<◌, ◌≤◌, Bool, List, [], ◌∷◌, map}
use Rattle.fd_language.specs.PlacedTerm.{PlacedTerm}
use Rattle.fd_model.specs.declared.kinds.Order.{Order}
use Rattle.fd_model.specs.Goal.{Goal, Program, Query}
use Rattle.fd_model.specs.RunnablePrograms.{NumbersBelow, EachBelow}
use Rattle.fd_model.specs.Members.{Member}
use Rattle.fd_model.specs.FlatQueries.{IsFlat}
use Rattle.fd_model.specs.FlatBest.{IsFlatBest}
use Rattle.fd_model.specs.Queries.{body_of}
use Rattle.reason_meaning.specs.FewerGoals.{looked_at}
use Rattle.reason_meaning.specs.Laws.{IsClash}
use Rattle.reason_meaning.specs.Staying.{Choice, staying}
use Rattle.reason_meaning.specs.TextQueries.{parts_of}
use Rattle.reason_meaning.specs.Told.{Source, ReasonLines}

-- Of a flat query: the told goals and those that stay can't hold together, and without any single told one they can.
abbrev pub FlatTold : Type 0
FlatTold =
    (M N n : ℕ) (prog : Program) (q : Query) (c : Choice) (ts : List PlacedTerm) (src : Source) (gs : List Goal) (o : Order) (ms : List Member) → IsFlat M N q gs o ms
    → (ks : List Bool) (out : List ℕ) → 0 < N → N ≤ M → EachBelow q.variables q.goals → NumbersBelow q.variables q.shown
    → ReasonLines M N n prog q (staying c ts q.goals) src ks out → IsClash M N q gs (staying c ts q.goals) ks

-- As it is looked at, a flat query is flat, and so is one that asks for the best cost.
abbrev pub LookedAt : Type 0
LookedAt =
    (M N : ℕ) (q : Query) (gs : List Goal) (o : Order) (ms : List Member)
    → (IsFlat M N q gs o ms → IsFlat M N (looked_at q) gs o ms) × ((least : Bool) (c : Member) → IsFlatBest M N q gs o least ms c → IsFlat M N (looked_at q) gs o ms)

-- Each of the terms that `,` separates in a body is one goal of it, in the same order.
abbrev pub OneGoalEach : Type 0
OneGoalEach = (N : ℕ) (body : PlacedTerm) → map (body_of N) (parts_of body) ≡ map (λ g. g ∷ []) (body_of N body)
