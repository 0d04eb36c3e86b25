-- What a machine is seen as, and what its state stands for.
use Rattle.std.specs.Prelude.{min, ◌≡◌, ℕ, ◌+◌, ◌*◌, ◌-◌, ◌<◌, ◌≤◌, ◌^◌, Bool, true, false, suc, List, [], ◌∷◌, length, map, reverse, Option, Some, None}
use Rattle.std.specs.Prelude.{MatchOption, if◌then◌else◌, nat_eq, slice_index_or}
use Rattle.std.specs.Option.{option_eq}
use Rattle.fd_language.specs.declared.TheConstants.{INFINITY}
use Rattle.fd_language.specs.Term.{Name}
use Rattle.fd_model.specs.Goal.{Program, Query, Event}
use Rattle.fd_model.specs.Run.{IsLimit}
use Rattle.fd_model.specs.RunnablePrograms.{EachBelow, NumbersBelow, AreRunnable}
use Rattle.branch_meaning.specs.NextEvent.{is_final, IsNext}
use Rattle.machine_events.specs.declared.Limits.{Limits}
use Rattle.machine_events.specs.declared.MachineEvent.{MachineEvent}
use Rattle.machine_events.specs.declared.MachineEvent.TheVariants as event
use Rattle.machine_events.specs.declared.Shown.{Shown}
use Rattle.machine_events.specs.Events.{event_of, HasTerms}
use Rattle.branch_state.specs.States as branch
use Rattle.wam_code.specs.declared.instruction.Code.{Code}
use Rattle.wam_code.specs.declared.instruction.Code.TheVariants as step
use Rattle.wam_code.specs.Area.{Area, Span, Holds, HasQuery, name_of}
use Rattle.wam_code.specs.WorkMeasure.{weight}
use Rattle.wam_code.specs.Tries.{IsQueryCode}
use Rattle.code_areas.specs.Areas.{IsSet, Point, Contents}
use Rattle.code_meaning.specs.MachineStates.{Left}
use Rattle.code_safety.specs.Queries.{EndsIn, IsInQuery}
use Rattle.code_safety.specs.Safety.{IsSafe, IsSafeBack}
use Rattle.code_safety.specs.RemainingEvents.{Task, RunsAt, ReturnsTo, IsReadyToRun}
use Rattle.code_safety.specs.RepresentedBranch.{IsNaming}
use Rattle.code_safety.specs.Work.{left_by}
use Rattle.code_goals.specs.Answers.{IsAsked, ShowsAnswer}
use Rattle.code_goals.specs.Tasks as tasks
use Rattle.code_goals.specs.Tasks.{task_of}
use Rattle.code_goals.specs.GoalTexts.{ShowsWritten}
use Rattle.code_machine.specs.declared.run.Ending.{Ending}
use Rattle.code_machine.specs.declared.run.Ending.TheVariants as ending
use Rattle.code_machine.specs.declared.run.Label.{Label}
use Rattle.code_machine.specs.declared.run.Run.{Run}
use Rattle.code_machine.specs.declared.run.Saying.{Saying}
use Rattle.code_machine.specs.declared.run.Saying.TheVariants as saying
use Rattle.code_machine.specs.declared.run.Stage.{Stage}
use Rattle.code_machine.specs.declared.run.Stage.TheVariants.{Going, Returning, Ended}
use Rattle.code_machine.specs.Instructions.{HasGoal}
use Rattle.code_machine.specs.Labels.{lefts_by, AreLabels, whole_at, whole_back}

-- The code, the number of the query, and how far its run has come. The labels are the newest first. lost: memory was wanting. budget and limit are what is left
-- of limits; answers counts those given, and stays at its last value.
pub record State : Type 0 where
  pub area : Area
  pub query : ℕ
  pub branch : branch.State
  pub areas : Contents
  pub labels : List Label
  pub stage : Stage
  pub budget : ℕ
  pub limit : Option ℕ
  pub spent : ℕ
  pub lost : Bool
  pub limits : Limits
  pub answers : ℕ

-- A run alone knows neither its limits nor how many answers it has given.
abbrev pub no_limits : Limits
no_limits = record { steps = 0; answers = None; infinity = 0 }

abbrev pub state_of : Area → branch.State → Run → Bool → State
state_of area s r lost =
    record {
      area = area;
      query = r.query;
      branch = s;
      areas = r.areas;
      labels = reverse r.labels.items;
      stage = r.stage;
      budget = r.budget;
      limit = r.limit;
      spent = r.spent;
      lost = lost;
      limits = no_limits;
      answers = 0;
    }

-- a run with these
abbrev pub state_within : Area → branch.State → Run → Bool → Limits → ℕ → State
state_within area s r lost limits answers = record (state_of area s r lost) { limits = limits; answers = answers }

-- a run as it is at another stage
abbrev pub state_at : Area → branch.State → Run → Stage → State
state_at area s r st = record (state_of area s r false) { stage = st }

abbrev pub no_span : Span
no_span = record { at = 0; end = 0; names = [] }

-- the names of the variables that an answer shows
abbrev pub names_in : Area → ℕ → List Name
names_in area query = map (name_of area) (slice_index_or area.queries query no_span).names

abbrev pub names_of : State → List Name
names_of s = names_in s.area s.query

-- ---- what it stands for

-- The code stands for the program, and the query with the number is this one, which may be run.
pub record MayRun (area : Area) (number : ℕ) (prog : Program) (q : Query) : Type 0 where
  pub ready : IsReadyToRun area prog
  pub span : Span
  pub has : HasQuery area number span
  pub code : IsQueryCode area q span
  pub below : EachBelow q.variables q.goals
  pub shown : NumbersBelow q.variables q.shown
  pub runnable : AreRunnable INFINITY q.goals

-- The code stands for the program and has the query's names.
pub record IsTask (area : Area) (number : ℕ) (prog : Program) (q : Query) : Type 0 where
  pub ready : IsReadyToRun area prog
  pub asked : IsAsked area number q
  pub naming : IsNaming area (tasks.names_of area)

abbrev pub last_event : Ending → MachineEvent
last_event ending.End = event.End
last_event ending.Budget = event.Budget
last_event ending.Limit = event.Limit
last_event (ending.Fault f) = event.Fault f

-- the events and reductions still to come at a stage, with this budget and so many answers
abbrev pub StandsBy : Area → Task → branch.State → Contents → List Left → Stage → ℕ → Option ℕ → List Event → ℕ → Type 0
StandsBy area t s c ls (Going at) n k es r = RunsAt area t s at c ls (record { budget = n; answers = k; events = es; reductions = r })
StandsBy area t s c ls Returning n k es r = ReturnsTo area t s c ls (record { budget = n; answers = k; events = es; reductions = r })
StandsBy area t s c ls (Ended e) n k es r = (es ≡ event_of [] (last_event e) ∷ []) × (r ≡ 0)

-- the events still to come, and the reductions of the whole run
pub record StandsFor (s : State) (es : List Event) (total : ℕ) : Type 0 where
  pub program : Program
  pub query : Query
  pub task : IsTask s.area s.query program query
  pub later : ℕ
  pub all : total ≡ s.spent + later
  pub stands : StandsBy s.area (task_of s.area program query) s.branch s.areas (lefts_by s.areas.points s.labels) s.stage s.budget s.limit es later

-- ---- what is left to be done

-- One reduction brings at most so many times the work, and so much more.
abbrev pub most : Area → ℕ
most area = weight (length area.code) + (INFINITY + 3)

abbrev pub left_at : Area → Contents → List Label → ℕ → Stage → ℕ
left_at area c ls n (Going at) = 1 + 2 * left_by (most area) n (whole_at area at c ls)
left_at area c ls n Returning = 2 + 2 * left_by (most area) n (whole_back area c ls)
left_at area c ls n (Ended e) = 0

-- it falls with each step, and with each event that isn't final
abbrev pub left : State → ℕ
left s = left_at s.area s.areas s.labels s.budget s.stage

-- ---- what holds of it

-- how a run has ended: its choices are all taken, no reduction is left, no answer is allowed any more, or a goal of the code is at fault
abbrev pub IsEndedBy : Area → ℕ → Option ℕ → Ending → Type 0
IsEndedBy area n k ending.End = Unit {0}
IsEndedBy area n k ending.Budget = n ≡ 0
IsEndedBy area n k ending.Limit = k ≡ Some 0
IsEndedBy area n k (ending.Fault f) = HasGoal area

-- It is safe to go on, or back, with these labels, and an answer is allowed; or the run has ended.
abbrev pub IsReadyAt : Area → branch.State → Contents → List Label → ℕ → Option ℕ → Stage → Type 0
IsReadyAt area s c ls n k (Going at) = IsSafe area s at 0 c × AreLabels area c.points s.heaps.below ls × IsLimit k
IsReadyAt area s c ls n k Returning = IsSafeBack area s c × AreLabels area c.points s.heaps.below ls × IsLimit k
IsReadyAt area s c ls n k (Ended e) = IsEndedBy area n k e

-- the same of choice points, the newest first
abbrev pub PointsEndIn : Area → ℕ → List Point → Type 0
PointsEndIn area number [] = Unit {0}
PointsEndIn area number (p ∷ ps) = EndsIn area number p.place p.returns × PointsEndIn area number ps

-- Where all calls have returned, the machine is in the code of the query with a number, and so it is when it comes back to a choice point.
abbrev pub IsInside : Area → ℕ → Contents → Stage → Type 0
IsInside area number c (Going at) = EndsIn area number at c.returns × PointsEndIn area number c.points
IsInside area number c Returning = PointsEndIn area number c.points
IsInside area number c (Ended e) = Unit {0}

-- what holds of a machine for which memory wasn't wanting
pub record IsMachine (s : State) : Type 0 where
  pub query : s.query < length s.area.queries
  pub ready : IsReadyAt s.area s.branch s.areas s.labels s.budget s.limit s.stage
  pub inside : IsInside s.area s.query s.areas s.stage
  pub steps : s.spent + s.budget < 2 ^ 64

-- The answers given and those that are left make up the limit, where there is one.
abbrev pub AreCounted : Option ℕ → ℕ → Option ℕ → Type 0
AreCounted None a None = Unit {0}
AreCounted None a (Some k) = ⊥
AreCounted (Some m) a None = ⊥
AreCounted (Some m) a (Some k) = (a + k ≡ m) × (m < 2 ^ 64)

-- What was spent makes up the limits with what is left.
pub record IsWithin (s : State) : Type 0 where
  pub steps : s.spent + s.budget ≡ s.limits.steps
  pub answers : AreCounted s.limits.answers s.answers s.limit

-- the code, the query and its limits stay
abbrev pub IsSame : State → State → Type 0
IsSame old new = (new.area ≡ old.area) × (new.query ≡ old.query) × (new.limits ≡ old.limits)

-- A reduction that is spent is none that is left.
abbrev pub IsPaced : State → State → Type 0
IsPaced old new = new.spent + new.budget ≡ old.spent + old.budget

-- An answer is one fewer of those that are allowed.
abbrev pub Allows : MachineEvent → Option ℕ → Option ℕ → Type 0
Allows (event.Answer x) None k' = k' ≡ None
Allows (event.Answer x) (Some k) k' = (j : ℕ) × (k ≡ suc j) × (k' ≡ Some j)
Allows e k k' = k' ≡ k

-- what an event comes of
abbrev pub ComesOf : State → MachineEvent → Type 0
ComesOf s event.Budget = s.budget ≡ 0
ComesOf s event.Limit = s.limit ≡ Some 0
ComesOf s event.Newline = HasGoal s.area
ComesOf s (event.Write x) = HasGoal s.area
ComesOf s (event.Fault f) = HasGoal s.area
ComesOf s event.End = Unit {0}
ComesOf s (event.Answer x) = Unit {0}

-- the run has ended, and the event says how
abbrev pub IsEndOf : MachineEvent → Stage → Type 0
IsEndOf e st = (x : Ending) × (st ≡ Ended x) × (e ≡ last_event x)

-- Where a run has ended, it stays so, and spends nothing more.
abbrev pub StaysEnded : State → State → Type 0
StaysEnded old new = (x : Ending) → old.stage ≡ Ended x → (new.stage ≡ Ended x) × (new.spent ≡ old.spent)

-- nothing is said, and the same is still to come
pub record IsQuiet (old new : State) : Type 0 where
  pub stands : (es : List Event) (total : ℕ) → StandsFor old es total → StandsFor new es total
  pub falls : left new < left old
  pub paced : IsPaced old new
  pub limit : new.limit ≡ old.limit
  pub unended : (x : Ending) → old.stage ≡ Ended x → ⊥

-- the event is the first of those still to come, and the others are left
pub record Says (old : State) (e : MachineEvent) (new : State) : Type 0 where
  pub next : IsNext State StandsFor old (event_of (names_of old) e) new
  pub last : is_final (event_of [] e) ≡ true → (es : List Event) (total : ℕ) → StandsFor old es total → es ≡ event_of [] e ∷ []
  pub falls : is_final (event_of [] e) ≡ false → left new < left old
  pub ends : is_final (event_of [] e) ≡ true → left new ≡ 0
  pub shown : HasTerms (length (names_of old)) e
  pub paced : IsPaced old new
  pub limit : Allows e old.limit new.limit
  pub comes : ComesOf new e
  pub ended : is_final (event_of [] e) ≡ true → IsEndOf e new.stage
  -- a run that had ended says so again
  pub again : (x : Ending) → old.stage ≡ Ended x → (e ≡ last_event x) × (new.stage ≡ Ended x) × (new.spent ≡ old.spent)

-- the event of what is said, with the terms that the machine shows there
abbrev pub IsEvent : State → Saying → MachineEvent → Type 0
IsEvent s (saying.Term to) e = (x : Shown) × ShowsWritten s.area s.branch s.areas x × (e ≡ event.Write x)
IsEvent s saying.Newline e = e ≡ event.Newline
IsEvent s (saying.Answer at) e = (x : Shown) × ShowsAnswer s.area s.branch at s.areas s.query x × (e ≡ event.Answer x)
IsEvent s (saying.Ended f) e = e ≡ last_event f

-- its terms are there
abbrev pub MayShow : State → Saying → Type 0
MayShow s (saying.Term to) = IsSafe s.area s.branch to 0 s.areas × IsSet s.areas.registers 1
MayShow s saying.Newline = Unit {0}
MayShow s (saying.Answer at) = IsSafe s.area s.branch at 0 s.areas × Holds s.area at step.AnswerNow × IsInQuery s.area s.query at
MayShow s (saying.Ended f) = Unit {0}

-- something is said: its event is the first of those still to come
pub record Tells (old : State) (w : Saying) (new : State) : Type 0 where
  pub shows : MayShow new w
  pub says : (e : MachineEvent) → IsEvent new w e → Says old e new

-- one step
abbrev pub IsStep : State → Option Saying → State → Type 0
IsStep old o new = MatchOption o (IsQuiet old new) (λ w. Tells old w new)

-- With this budget, an instruction that may say something: the answer, a goal that is no call, no disjunction, no test and no cut, or any goal where no
-- reduction is left.
abbrev pub MaySay : ℕ → Code → Type 0
MaySay n step.AnswerNow = Unit {0}
MaySay n (step.Builtin k) = Unit {0}
MaySay n (step.Constrain k) = Unit {0}
MaySay n (step.Label o) = Unit {0}
MaySay n (step.Best o least) = Unit {0}
MaySay n (step.PostRange r m) = Unit {0}
MaySay n (step.Call e) = n ≡ 0
MaySay n (step.Execute e) = n ≡ 0
MaySay n (step.Either to) = n ≡ 0
MaySay n (step.TestOnly m) = n ≡ 0
MaySay n (step.EnterTest m j to) = n ≡ 0
MaySay n (step.CutTo m) = n ≡ 0
MaySay n _ = ⊥

-- at the place of such an instruction, on the way back with no choice point left, or at the end
abbrev pub MaySayAt : Area → Contents → ℕ → Stage → Type 0
MaySayAt area c n (Going at) = (i : Code) × Holds area at i × MaySay n i
MaySayAt area c n Returning = length c.points ≡ 0
MaySayAt area c n (Ended e) = Unit {0}

abbrev pub IsToSay : State → Type 0
IsToSay s = MaySayAt s.area s.areas s.budget s.stage

-- the state after steps that say nothing
pub record StillRuns (old new : State) : Type 0 where
  pub machine : IsMachine new
  pub same : IsSame old new
  pub stands : (es : List Event) (total : ℕ) → StandsFor old es total → StandsFor new es total
  pub less : left new ≤ left old
  pub paced : IsPaced old new
  pub limit : new.limit ≡ old.limit
  pub still : StaysEnded old new

-- Steps that say nothing, with less left to be done; or something may have to be said behind them.
abbrev pub WalksOn : State → State → Bool → Type 0
WalksOn old new true = StillRuns old new × (left new < left old)
WalksOn old new false = StillRuns old new × IsToSay new

-- ---- what a machine shows

-- an event that only a goal of the code gives
abbrev pub IsOfGoal : MachineEvent → Type 0
IsOfGoal (event.Write x) = Unit {0}
IsOfGoal event.Newline = Unit {0}
IsOfGoal (event.Fault f) = Unit {0}
IsOfGoal _ = ⊥

-- one answer more, up to the last number
abbrev pub counted : MachineEvent → ℕ → ℕ
counted (event.Answer x) n = min (n + 1) (2 ^ 64 - 1)
counted _ n = n

-- where a run is after an answer, with so many allowed before
abbrev pub behind_answer : Option ℕ → Stage
behind_answer o = if option_eq nat_eq o (Some 1) then Ended ending.Limit else Returning

abbrev pub one_fewer : Option ℕ → Option ℕ
one_fewer None = None
one_fewer (Some n) = Some (n - 1)
