-- What was written when a call ends.
use Rattle.std.specs.Prelude.{◌≡◌, ◌⊎◌, ◌<◌, ℕ, List, [], ◌∷◌, Bool, true, false, length, slice_get, Option, Some, None}
use Rattle.std.specs.List.{list_any}
use Rattle.fd_language.specs.declared.TheConstants.{INFINITY}
use Rattle.fd_model.specs.Goal.{Program, Query, Event, start_of}
use Rattle.fd_model.specs.Output.{is_stop}
use Rattle.fd_model.specs.Run.{Run}
use Rattle.fd_model.specs.RunnablePrograms.{IsScoped, IsRunnableProgram}
use Rattle.machine_events.specs.declared.Limits.{Limits}
use Rattle.machine_events.specs.declared.MachineEvent.{MachineEvent}
use Rattle.machine_events.specs.declared.MachineEvent.TheVariants as event
use Rattle.machine_events.specs.Events.{event_of, HasTerms}
use Rattle.branch_meaning.specs.NextEvent.{is_final, IsNext}
use Rattle.clause_check.specs.Programs.{FlatProgram, program_in, query_at, query_in}
use Rattle.wam_code.specs.Area.{Area}
use Rattle.wam_code.specs.Tries.{StandsForProgram}
use Rattle.code_machine.specs.States.{State, MayRun, StandsFor, IsEndOf, IsOfGoal, IsSame, counted, left, names_of}
use Rattle.code_machine.specs.Instructions.{HasGoal}
use Rattle.fd_model.specs.declared.Status.{Status}
use Rattle.fd_model.specs.declared.Status.TheVariants.{WriteFault, NoMemory}
use Rattle.byte_ports.specs.Ends.{SinkState, WroteAll, WroteFront, WrotePart}
use Rattle.command_words.specs.declared.Options.{Options}
use Rattle.text_output.specs.declared.fault.Fault.{Fault}
use Rattle.text_output.specs.declared.fault.Fault.TheVariants as fault

-- what a fault leaves of a piece
abbrev pub CutBy : SinkState → SinkState → Fault → List ℕ → Type 0
CutBy old new fault.WriteFault piece = WroteFront old new piece
CutBy old new fault.NoMemory piece = WrotePart old new piece

-- of a run that writes an output with its status
abbrev pub Ending : SinkState → SinkState → Status → Status → List ℕ → Type 0
Ending old new result st out =
    ((result ≡ st) × WroteAll old new out)
    ⊎ (((result ≡ WriteFault) × WroteFront old new out)
    ⊎ ((result ≡ NoMemory) × WrotePart old new out))

-- The same of a run that takes no memory: want of it is never told.
abbrev pub WroteOutput : SinkState → SinkState → Status → Status → List ℕ → Type 0
WroteOutput old new result st out = ((result ≡ st) × WroteAll old new out) ⊎ ((result ≡ WriteFault) × WroteFront old new out)

-- the status of a run that was cut short
abbrev pub fault_status : Fault → Status
fault_status fault.WriteFault = WriteFault
fault_status fault.NoMemory = NoMemory

-- The run of a program's query with these limits. N is the greatest number that a variable may have.
abbrev pub IsRunOf : ℕ → FlatProgram → ℕ → ℕ → Option ℕ → List Event → ℕ → Type 0
IsRunOf N p q steps answers es r =
    let query = query_in p (query_at p q) in
    Run INFINITY N (program_in p) query steps answers (start_of query ∷ []) es r

-- The run of the query that code has under a number, for some program that the code stands for.
abbrev pub IsRunBy : ℕ → Area → ℕ → ℕ → Option ℕ → List Event → ℕ → Type 0
IsRunBy N area number steps answers es r =
    (prog : Program) × (query : Query) × MayRun area number prog query × Run INFINITY N prog query steps answers (start_of query ∷ []) es r

-- whether the event is the last one, and then whether it stops its query
abbrev pub IsEnding : MachineEvent → Option Bool → Type 0
IsEnding e None = is_final (event_of [] e) ≡ false
IsEnding e (Some b) = (is_final (event_of [] e) ≡ true) × (b ≡ is_stop (event_of [] e ∷ []))

-- ---- code

-- The code stands for the program, which can run: each clause and each query has as many variables as it says, and its ranges are accepted.
pub record RunsProgram (area : Area) (prog : Program) : Type 0 where
  pub stands : StandsForProgram area prog
  pub scoped : IsScoped prog
  pub runnable : IsRunnableProgram INFINITY prog

-- the limits of the queries of an output
abbrev pub limits_of : Options → Limits
limits_of o = record { steps = o.steps; answers = o.answers; infinity = o.infinity }

-- A machine as `Machine::new` gives it for the query with a number, whatever the code stands for: nothing is spent yet, and no answer given.
pub record IsNew (area : Area) (number : ℕ) (limits : Limits) (m : State) : Type 0 where
  pub own : (m.area ≡ area) × (m.query ≡ number) × (m.limits ≡ limits)
  pub unspent : (m.spent ≡ 0) × (m.answers ≡ 0) × (m.lost ≡ false)
  pub stands : (es : List Event) (r : ℕ) → IsRunBy limits.infinity area number limits.steps limits.answers es r → StandsFor m es r

-- A call of its `next` gives the event.
pub record GivesEvent (old : State) (e : MachineEvent) (new : State) : Type 0 where
  pub same : IsSame old new
  pub next : IsNext State StandsFor old (event_of (names_of old) e) new
  pub shown : HasTerms (length (names_of old)) e
  pub falls : is_final (event_of [] e) ≡ false → left new < left old
  pub answers : new.answers ≡ counted e old.answers
  pub whole : new.lost ≡ false

-- So do calls one after another, and none of the events is a last one.
abbrev pub Reaches : State → List MachineEvent → State → Type 0
Reaches old [] new = new ≡ old
Reaches old (e ∷ es) new = (next : State) × GivesEvent old e next × (is_final (event_of [] e) ≡ false) × Reaches next es new

-- From this state a machine comes to its end by calls of `next`, and the last of them gives the event.
pub record EndsFrom (first : State) (e : MachineEvent) : Type 0 where
  pub told : List MachineEvent
  pub before : State
  pub reached : Reaches first told before
  pub machine : State
  pub gives : GivesEvent before e machine
  pub stage : IsEndOf e machine.stage
  -- its reductions are spent, or its answers given, or it came to a goal
  pub budget : e ≡ event.Budget → machine.spent ≡ first.limits.steps
  pub limit : e ≡ event.Limit → first.limits.answers ≡ Some machine.answers
  pub goals : IsOfGoal e → HasGoal first.area

-- so does one that is made for the query with a number, with these limits
abbrev pub EndsBy : Area → ℕ → Limits → MachineEvent → Type 0
EndsBy area number limits e = (first : State) × IsNew area number limits first × EndsFrom first e

-- whether a last event stops its query
abbrev pub stops : MachineEvent → Bool
stops e = is_stop (event_of [] e ∷ [])

-- the event by which a machine ends, and whether it stops its query
abbrev pub LastFrom : State → Bool → Type 0
LastFrom first stopped = (e : MachineEvent) × EndsFrom first e × (stopped ≡ stops e)

-- of one that is made for a query
abbrev pub LastBy : Area → ℕ → Limits → Bool → Type 0
LastBy area number limits stopped = (e : MachineEvent) × EndsBy area number limits e × (stopped ≡ stops e)

-- the last events of the queries from the first on, and whether one of them stops its query
pub record AreLast (area : Area) (limits : Limits) (es : List MachineEvent) (stop : Bool) : Type 0 where
  pub each : (k : ℕ) (e : MachineEvent) → slice_get es k ≡ Some e → EndsBy area k limits e
  pub is : stop ≡ list_any stops es

-- of all queries
abbrev pub HasLast : Area → Limits → Bool → Type 0
HasLast area limits stop = (es : List MachineEvent) × (length es ≡ length area.queries) × AreLast area limits es stop
