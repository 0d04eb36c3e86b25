-- What becomes of a machine that takes a goal.
use Rattle.std.specs.Prelude.{◌≡◌, ℕ, suc, Bool, true, false, List, [], ◌∷◌, Option}
use Rattle.fd_language.specs.declared.TheConstants.{INFINITY}
use Rattle.fd_model.specs.Goal as model
use Rattle.fd_model.specs.Goal.{Program, Query, Event}
use Rattle.fd_model.specs.RunnablePrograms.{IsRunnableProgram}
use Rattle.branch_meaning.specs.RemainingEvents.{Spends}
use Rattle.branch_state.specs.States as branch
use Rattle.wam_code.specs.Area.{Area}
use Rattle.code_areas.specs.Areas.{IsSet, Contents}
use Rattle.code_meaning.specs.MachineStates.{Left}
use Rattle.code_safety.specs.Safety.{IsSafe, IsSafeBack}
use Rattle.code_safety.specs.RemainingEvents.{Task, Future, RunsAt, ReturnsTo}
use Rattle.code_goals.specs.declared.goal_outcomes.Next.{Next}
use Rattle.code_goals.specs.declared.goal_outcomes.Next.TheVariants.{On, Back, Fault, Write, Newline}
use Rattle.code_goals.specs.Tasks.{task_of}
use Rattle.code_goals.specs.GoalTexts.{first_written}

-- on where a goal holds, and else back
abbrev pub next_by : ℕ → Bool → Next
next_by at true = On (suc at)
next_by at false = Back

-- What the machine does next is safe. What it writes is in the first register.
abbrev pub IsSafeNext : Area → branch.State → Contents → Next → Type 0
IsSafeNext area s c (On to) = IsSafe area s to 0 c
IsSafeNext area s c Back = IsSafeBack area s c
IsSafeNext area s c (Fault f) = Unit {0}
IsSafeNext area s c (Write to) = IsSafe area s to 0 c × IsSet c.registers 1
IsSafeNext area s c (Newline to) = IsSafe area s to 0 c

-- it goes on at the next place, if it goes on
abbrev pub LeadsNext : ℕ → Next → Type 0
LeadsNext at (On to) = to ≡ suc at
LeadsNext at Back = Unit {0}
LeadsNext at (Fault f) = Unit {0}
LeadsNext at (Write to) = to ≡ suc at
LeadsNext at (Newline to) = to ≡ suc at

-- it writes nothing and ends no line
abbrev pub SaysNothing : Next → Type 0
SaysNothing (Write to) = ⊥
SaysNothing (Newline to) = ⊥
SaysNothing _ = Unit {0}

-- One reduction is spent, these events are said, and then the rest is to come.
abbrev pub SpendsTo : (Future → Type 0) → List Event → ℕ → Option ℕ → List Event → ℕ → Type 0
SpendsTo Then said n k es r = Spends (λ later j. Then (record { budget = n; answers = k; events = later; reductions = j })) said es r

-- the events and reductions are those of what the machine does next
abbrev pub RunsNext : Area → Task → branch.State → Contents → List Left → ℕ → Option ℕ → List Event → ℕ → Next → Type 0
RunsNext area t s c ls n k es r (On to) = SpendsTo (RunsAt area t s to c ls) [] n k es r
RunsNext area t s c ls n k es r Back = SpendsTo (ReturnsTo area t s c ls) [] n k es r
RunsNext area t s c ls n k es r (Fault f) = (es ≡ model.Fault f ∷ []) × (r ≡ 1)
RunsNext area t s c ls n k es r (Write to) = SpendsTo (RunsAt area t s to c ls) (model.Wrote (first_written area s c) ∷ []) n k es r
RunsNext area t s c ls n k es r (Newline to) = SpendsTo (RunsAt area t s to c ls) (model.Newline ∷ []) n k es r

-- Whatever was still to come at a place, where a reduction is left: the goal in front is taken.
abbrev pub TakesBy : Area → branch.State → ℕ → Contents → (Task → List Left → ℕ → Option ℕ → List Event → ℕ → Type 0) → Type 0
TakesBy area s at c Then =
    (prog : Program) (q : Query) (ls : List Left) (n : ℕ) (k : Option ℕ) (es : List Event) (r : ℕ) → IsRunnableProgram INFINITY prog
    → RunsAt area (task_of area prog q) s at c ls (record { budget = suc n; answers = k; events = es; reductions = r }) → Then (task_of area prog q) ls n k es r

abbrev pub Takes : Area → branch.State → ℕ → Contents → branch.State → Next → Type 0
Takes area s at c s' x = TakesBy area s at c (λ t ls n k es r. RunsNext area t s' c ls n k es r x)
