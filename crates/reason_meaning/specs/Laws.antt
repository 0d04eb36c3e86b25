-- The statements of the laws on outcomes and reasons.
use Rattle.std.specs.Prelude.{◌≡◌, ℕ, ◌<◌, ◌≤◌, Bool, true, false, List, [], ◌∷◌, ◌++◌, length}
use Rattle.fd_model.specs.declared.kinds.Order.{Order}
use Rattle.fd_model.specs.Goal.{Goal, Label, Program, Query}
use Rattle.fd_model.specs.RunnablePrograms.{NumbersBelow, EachBelow, IsRunnableProgram, AreRunnable, IsScoped}
use Rattle.fd_model.specs.Members.{Member}
use Rattle.fd_model.specs.Satisfaction.{Assignment}
use Rattle.fd_model.specs.FlatQueries.{IsFlat}
use Rattle.fd_model.specs.FlatLines.{assigned_line, IsSatisfying, IsLast}
use Rattle.reason_meaning.specs.FewerGoals.{kept, without, is_kept, with_queries, keeping_of, IsWithin}
use Rattle.reason_meaning.specs.Outcomes.{Outcome, answered, unanswered, stopped, HasOutcome}
use Rattle.reason_meaning.specs.Reasons.{IsReason}

-- What an outcome says of constraints: that no assignment satisfies them, or that the line is that of one which does.
abbrev pub Says : ℕ → ℕ → Query → List Goal → Outcome → Type 0
Says M N q gs (answered l) = (a : Assignment) × IsSatisfying M N gs a × (l ≡ assigned_line q a)
Says M N q gs unanswered = (a : Assignment) → IsSatisfying M N gs a → ⊥
Says M N q gs (stopped e) = IsLast e

-- Of a flat query without some of its goals.
abbrev pub FlatOutcomes : Type 0
FlatOutcomes =
    (M N n : ℕ) (prog : Program) (q : Query) (gs : List Goal) (o : Order) (ms : List Member) (f : IsFlat M N q gs o ms) (ks : List Bool) (x : Outcome)
    → 0 < N → N ≤ M → EachBelow q.variables q.goals → NumbersBelow q.variables q.shown
    → HasOutcome M N n prog q (kept ks gs ++ Label o f.list ∷ []) x → Says M N q (kept ks gs) x

-- The constraints of a reason can't hold together. Without any single one of those that don't stay they can, and so can fewer of them; but where the budget ended their
-- query that isn't known.
pub record IsClash (M N : ℕ) (q : Query) (gs : List Goal) (stays ks : List Bool) : Type 0 where
  pub none : (a : Assignment) → IsSatisfying M N (kept ks gs) a → ⊥
  pub needed : (i : ℕ) → is_kept ks i ≡ true → is_kept stays i ≡ false → (x : Outcome) × Says M N q (kept (without i ks) gs) x × (x ≡ unanswered → ⊥)
  pub fewer : (js : List Bool) (a : Assignment) → (hs : List Bool) → IsWithin js hs → IsSatisfying M N (kept hs gs) a → IsSatisfying M N (kept js gs) a

-- Of a flat query whose labelling stays.
abbrev pub FlatReasons : Type 0
FlatReasons =
    (M N n : ℕ) (prog : Program) (q : Query) (gs : List Goal) (o : Order) (ms : List Member) (f : IsFlat M N q gs o ms) (stays ks : List Bool)
    → 0 < N → N ≤ M → EachBelow q.variables q.goals → NumbersBelow q.variables q.shown → is_kept stays (length gs) ≡ true
    → IsReason M N n prog q stays ks → IsClash M N q gs stays ks

-- A query with these goals has one outcome.
abbrev pub OneOutcome : Type 0
OneOutcome =
    (M N n : ℕ) (prog : Program) (q : Query) (gs : List Goal) → IsRunnableProgram M prog → AreRunnable M gs
    → (o : Outcome) × HasOutcome M N n prog q gs o × ((x : Outcome) → HasOutcome M N n prog q gs x → x ≡ o)

-- Whatever other queries the program has.
abbrev pub SameClauses : Type 0
SameClauses = (M N n : ℕ) (prog : Program) (qs : List Query) (q : Query) (gs : List Goal) (o : Outcome) → HasOutcome M N n prog q gs o → HasOutcome M N n (with_queries prog qs) q gs o

-- A program without some goals of a query, in which no best leaf is searched for, can run and names no other variables.
abbrev pub KeptPrograms : Type 0
KeptPrograms =
    (M k : ℕ) (ks : List Bool) (prog : Program) → IsRunnableProgram M prog → IsScoped prog → IsRunnableProgram M (keeping_of k ks prog) × IsScoped (keeping_of k ks prog)
