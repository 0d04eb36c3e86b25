-- The statements of the laws.
use Rattle.std.specs.Prelude.{◌≡◌, ℕ, ◌<◌, ◌≤◌, Bool, List, [], ◌∷◌, length, Option, ◌⊎◌, ◌↔◌}
use Rattle.fd_model.specs.declared.Status.{Status}
use Rattle.fd_model.specs.declared.Status.TheVariants.{Done, Stopped}
use Rattle.fd_model.specs.Goal.{Program, Query, Event, start_of}
use Rattle.fd_model.specs.Output.{Queries, VerdictOutput}
use Rattle.fd_model.specs.Run.{Run}
use Rattle.fd_model.specs.RunnablePrograms.{IsRunnableProgram, AreRunnable, ClausesScoped, EachBelow}
use Rattle.fd_model.specs.Verdict.{Verdict, accepted, IsVerdict}
use Rattle.run_laws.specs.AnyUnifiers.{AnyRun, AnyQueries}
use Rattle.run_laws.specs.ConstraintSizes.{HasSmallConstraints}
use Rattle.run_laws.specs.FlatTexts.{FlatTextParts}

-- In the program of an accepted text no constraint has more occurrences of variables than the text has bytes.
abbrev pub SmallConstraints : Type 0
SmallConstraints = (M N : ℕ) (text : List ℕ) (prog : Program) → IsVerdict M N text (accepted prog) → HasSmallConstraints (length text) prog

-- Where a text was answered, its output is a part for each of its queries, and the parts of flat queries are as they should be: with the budget and the limit
-- of answers, whatever they are, and however many variables the constraints have.
abbrev pub FlatTexts : Type 0
FlatTexts =
    (M N : ℕ) (text : List ℕ) (v : Verdict) (budget : ℕ) (answers : Option ℕ) (out : List ℕ) (st : Status) → 0 < N → N ≤ M → IsVerdict M N text v
    → VerdictOutput M N v budget answers out st → (st ≡ Done) ⊎ (st ≡ Stopped) → (prog : Program) × (v ≡ accepted prog) × FlatTextParts M N prog 1 prog.queries out

-- Whichever most general unifier each step takes, the events and the number of reductions are those of the run. The goals are runnable and name no variable
-- beyond those of their clause or query, as in the program of each accepted text.
abbrev pub AnyRuns : Type 0
AnyRuns =
    (M N : ℕ) (prog : Program) (q : Query) (n : ℕ) (k : Option ℕ) → IsRunnableProgram M prog → AreRunnable M q.goals → ClausesScoped prog.clauses → EachBelow q.variables q.goals
    → (es : List Event) (r : ℕ) → AnyRun M N prog q n k (start_of q ∷ []) es r ↔ Run M N prog q n k (start_of q ∷ []) es r

-- So are the bytes that the queries of an accepted text write.
abbrev pub AnyOutput : Type 0
AnyOutput =
    (M N : ℕ) (text : List ℕ) (prog : Program) (budget : ℕ) (answers : Option ℕ) (out : List ℕ) (stop : Bool) → IsVerdict M N text (accepted prog)
    → AnyQueries M N prog budget answers 1 prog.queries out stop ↔ Queries M N prog budget answers 1 prog.queries out stop
