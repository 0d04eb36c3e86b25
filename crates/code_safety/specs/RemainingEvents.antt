-- The events and reductions that are still to come for a machine, by its branch, its areas and its place, and what the steps of a machine keep of them.
use Rattle.std.specs.Prelude.{◌≡◌, ℕ, suc, List, [], ◌∷◌, length, Option}
use Rattle.fd_language.specs.declared.TheConstants.{INFINITY}
use Rattle.fd_model.specs.Goal.{Program, Query, Event}
use Rattle.fd_model.specs.RunnablePrograms.{ClausesScoped, IsRunnableProgram}
use Rattle.heap_cells.specs.Terms.{Naming}
use Rattle.branch_meaning.specs.RemainingEvents.{oldest, Spends}
use Rattle.branch_state.specs.States as branch
use Rattle.wam_code.specs.Area.{Area}
use Rattle.wam_code.specs.Tries.{StandsForProgram}
use Rattle.code_areas.specs.Areas.{Contents}
use Rattle.code_meaning.specs.MachineStates.{Left, resume, Runs, Returns}
use Rattle.code_safety.specs.Machine.{registers_of, stack_of}
use Rattle.code_safety.specs.RepresentedBranch.{IsNaming}
use Rattle.code_safety.specs.declared.instruction_outcomes.Went.{Went}
use Rattle.code_safety.specs.declared.instruction_outcomes.Went.TheVariants.{On, Back}
use Rattle.code_safety.specs.Choices.{choices_in}

-- what a machine runs, under which names of atoms
pub record Task : Type 0 where
  pub program : Program
  pub query : Query
  pub name : Naming

-- the budget of reductions, the answers that are still allowed, or none, and the events and reductions still to come
pub record Future : Type 0 where
  pub budget : ℕ
  pub answers : Option ℕ
  pub events : List Event
  pub reductions : ℕ

-- The machine goes on at a place. ls says what is left at each choice point.
abbrev pub RunsAt : Area → Task → branch.State → ℕ → Contents → List Left → Future → Type 0
RunsAt area t s at c ls f = Runs INFINITY s.infinity area t.program t.query t.name s.heaps.now s.levels.current.posted at (registers_of c) (stack_of c)
    (choices_in s c ls) f.budget f.answers f.events f.reductions

-- It goes back to its newest choice point.
abbrev pub ReturnsTo : Area → Task → branch.State → Contents → List Left → Future → Type 0
ReturnsTo area t s c ls f = Returns INFINITY s.infinity area t.program t.query t.name (choices_in s c ls) f.budget f.answers f.events f.reductions

-- ---- steps

-- Whatever the machine stood for at the place at, it stands for at the place to.
abbrev pub KeepsRunning : Area → branch.State → ℕ → Contents → branch.State → ℕ → Contents → Type 0
KeepsRunning area s at c s' to c' = (t : Task) (ls : List Left) (f : Future) → IsNaming area t.name → RunsAt area t s at c ls f → RunsAt area t s' to c' ls f

-- or no branch is left there
abbrev pub GoesBack : Area → branch.State → ℕ → Contents → branch.State → Contents → Type 0
GoesBack area s at c s' c' = (t : Task) (ls : List Left) (f : Future) → IsNaming area t.name → RunsAt area t s at c ls f → ReturnsTo area t s' c' ls f

abbrev pub RunsThen : Area → branch.State → ℕ → Contents → branch.State → Contents → Went → Type 0
RunsThen area s at c s' c' (On to) = KeepsRunning area s at c s' to c'
RunsThen area s at c s' c' Back = GoesBack area s at c s' c'

-- It does so with a new choice point, to come back to at the place other.
abbrev pub LeavesChoice : Area → branch.State → ℕ → Contents → branch.State → ℕ → Contents → ℕ → Type 0
LeavesChoice area s at c s' to c' other = (t : Task) (ls : List Left) (f : Future) → IsNaming area t.name → RunsAt area t s at c ls f → RunsAt area t s' to c' (resume other ∷ ls) f

-- A machine that went back goes on at the place of its newest choice point, which is gone.
abbrev pub Resumes : Area → branch.State → Contents → branch.State → ℕ → Contents → Type 0
Resumes area s c s' to c' = (t : Task) (ls : List Left) (f : Future) → ReturnsTo area t s c (resume to ∷ ls) f → RunsAt area t s' to c' ls f

-- The code stands for the program, whose goals may be run.
pub record IsReadyToRun (area : Area) (prog : Program) : Type 0 where
  pub stands : StandsForProgram area prog
  pub scoped : ClausesScoped prog.clauses
  pub runnable : IsRunnableProgram INFINITY prog

-- A goal is taken: a reduction is spent. Something is left at each choice point.
abbrev pub SpendsOn : Area → branch.State → ℕ → Contents → (Task → List Left → Future → Type 0) → Type 0
SpendsOn area s at c Then =
    (t : Task) (ls : List Left) (n : ℕ) (k : Option ℕ) (es : List Event) (r : ℕ) → IsReadyToRun area t.program → length ls ≡ length c.points
    → RunsAt area t s at c ls (record { budget = suc n; answers = k; events = es; reductions = r })
    → Spends (λ later j. Then t ls (record { budget = n; answers = k; events = later; reductions = j })) [] es r

-- A predicate is called, whose code begins at the place to.
abbrev pub Calls : Area → branch.State → ℕ → Contents → branch.State → ℕ → Contents → Type 0
Calls area s at c s' to c' = SpendsOn area s at c (λ t ls f. RunsAt area t s' to c' ls f)

-- Both ways of a disjunction, or of a test, are to be taken, the other one from a new choice point.
abbrev pub SplitsAt : Area → branch.State → ℕ → Contents → branch.State → ℕ → Contents → ℕ → Type 0
SplitsAt area s at c s' to c' other = SpendsOn area s at c (λ t ls f. RunsAt area t s' to c' (resume other ∷ ls) f)

-- A test that has no other way begins.
abbrev pub TestsAt : Area → branch.State → ℕ → Contents → branch.State → ℕ → Contents → Type 0
TestsAt area s at c s' to c' = SpendsOn area s at c (λ t ls f. RunsAt area t s' to c' ls f)

-- The newest choice points are dropped, and with them what is left there.
abbrev pub CutsAt : Area → branch.State → ℕ → Contents → branch.State → ℕ → Contents → Type 0
CutsAt area s at c s' to c' = SpendsOn area s at c (λ t ls f. RunsAt area t s' to c' (oldest (length c'.points) ls) f)
