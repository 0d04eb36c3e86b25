-- The way to the best leaf of a labelling: a machine takes the labelling's variables one after the other, and each gets the value that was found for it.
use Rattle.std.specs.Prelude.{◌≡◌, ℕ, ◌+◌, ◌≤◌, Bool, List, length, Option, Some, None}
use Rattle.fd_language.specs.declared.TheConstants.{INFINITY}
use Rattle.fd_model.specs.declared.kinds.Order.{Order}
use Rattle.fd_model.specs.Goal.{Program, Query}
use Rattle.sought_leaves.specs.LeafSearch.{found_at}
use Rattle.branch_state.specs.States as branch
use Rattle.branch_goals.specs.Searches.{firsts, seconds}
use Rattle.wam_code.specs.Area.{Area}
use Rattle.code_areas.specs.Areas.{Contents}
use Rattle.code_meaning.specs.BestLeafSearch.{Leads}
use Rattle.code_meaning.specs.MachineStates.{Left}
use Rattle.code_safety.specs.Choices.{choices_in}
use Rattle.code_safety.specs.Machine.{registers_of, stack_of}
use Rattle.code_safety.specs.Safety.{IsSafe}
use Rattle.code_safety.specs.RemainingEvents.{Future, RunsAt}
use Rattle.code_goals.specs.declared.goal_outcomes.Next.{Next}
use Rattle.code_goals.specs.declared.goal_outcomes.Next.TheVariants.{On}
use Rattle.code_goals.specs.GoalOutcomes.{IsSafeNext, LeadsNext}
use Rattle.code_goals.specs.Tasks.{names_of, task_of}

-- variables of the heap, each with the value that was found for it
abbrev pub Values : Type 0
Values = List (ℕ × ℕ)

-- the value beside a variable, at its first place
abbrev pub value_for : Values → ℕ → ℕ
value_for ps v = found_at (firsts ps) (seconds ps) v

-- The machine is on the way, and so many variables are still to be taken.
abbrev pub LeadsAt : Area → Program → Query → branch.State → ℕ → Contents → List Left → Order → Bool → Values → ℕ → Future → Type 0
LeadsAt area prog q s at c ls o least ps left f =
    Leads INFINITY s.infinity area prog q (names_of area) o least (firsts ps) (seconds ps) left s.heaps.now s.levels.current.posted at (registers_of c)
    (stack_of c) (choices_in s c ls) f.budget f.answers f.events f.reductions

-- Whatever was on the way before is on it now, so many variables further.
abbrev pub IsLed : Area → branch.State → ℕ → Contents → Order → Bool → Values → branch.State → ℕ → Type 0
IsLed area s at c o least ps s' count =
    (prog : Program) (q : Query) (ls : List Left) (f : Future) (left : ℕ) → LeadsAt area prog q s at c ls o least ps left f
    → (rest : ℕ) × (left ≡ count + rest) × LeadsAt area prog q s' at c ls o least ps rest f

-- It is at the leaf, and goes on at a place. Nothing else can come.
abbrev pub IsThere : Area → branch.State → ℕ → Contents → Order → Bool → Values → branch.State → ℕ → Next → Type 0
IsThere area s at c o least ps s' most (On to) = (prog : Program) (q : Query) (ls : List Left) (f : Future) (left : ℕ) → left ≤ most
    → LeadsAt area prog q s at c ls o least ps left f → RunsAt area (task_of area prog q) s' to c ls f
IsThere area s at c o least ps s' most x = (prog : Program) (q : Query) (ls : List Left) (f : Future) (left : ℕ) → left ≤ most → LeadsAt area prog q s at c ls o least ps left f → ⊥

-- after one step
abbrev pub LeadsOnce : Area → branch.State → ℕ → Contents → Order → Bool → Values → branch.State → Option Next → Type 0
LeadsOnce area s at c o least ps s' None = IsLed area s at c o least ps s' 1
LeadsOnce area s at c o least ps s' (Some x) = ((most : ℕ) → IsThere area s at c o least ps s' most x) × LeadsNext at x

abbrev pub IsSafeLed : Area → branch.State → ℕ → Contents → Option Next → Type 0
IsSafeLed area s at c None = IsSafe area s at 0 c
IsSafeLed area s at c (Some x) = IsSafeNext area s c x

-- after all of them, of which there are no more than variables
abbrev pub LeadsTo : Area → branch.State → ℕ → Contents → Order → Bool → Values → branch.State → Next → Type 0
LeadsTo area s at c o least ps s' x = IsThere area s at c o least ps s' (length ps) x
