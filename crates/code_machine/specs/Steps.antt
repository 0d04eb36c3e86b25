-- What the instructions do to a branch, the areas and the labels of a machine.
use Rattle.std.specs.Prelude.{◌≡◌, ◌⊎◌, ℕ, suc, ◌*◌, ◌<◌, ◌≤◌, List, ◌∷◌, Option, Some, None, false}
use Rattle.fd_model.specs.Goal.{Program, Query, Event}
use Rattle.branch_state.specs.States as branch
use Rattle.branch_state.specs.States.{IsSameBelow, with_pair}
use Rattle.wam_code.specs.Area.{Area}
use Rattle.wam_code.specs.declared.instruction.Code.{Code}
use Rattle.code_areas.specs.Areas.{Contents}
use Rattle.code_safety.specs.declared.instruction_outcomes.Went.{Went}
use Rattle.code_safety.specs.declared.instruction_outcomes.Went.TheVariants.{On, Back}
use Rattle.code_safety.specs.Choices.{point_of}
use Rattle.code_safety.specs.Queries.{KeepsQuery, KeepsQueryThen}
use Rattle.code_safety.specs.Safety.{IsSafeThen}
use Rattle.code_safety.specs.RemainingEvents.{Future, RunsAt, ReturnsTo, RunsThen, LeavesChoice}
use Rattle.code_safety.specs.RepresentedBranch.{IsNaming}
use Rattle.code_safety.specs.Work.{work_at, work_then}
use Rattle.code_goals.specs.declared.labels.ValuesLeft.{ValuesLeft}
use Rattle.code_goals.specs.declared.goal_outcomes.Next.{Next}
use Rattle.code_goals.specs.declared.goal_outcomes.Next.TheVariants as next
use Rattle.code_goals.specs.GoalOutcomes.{IsSafeNext, RunsNext}
use Rattle.code_goals.specs.Tasks.{names_of, task_of}
use Rattle.code_goals.specs.Values.{RunsWent}
use Rattle.code_machine.specs.declared.run.Ending.TheVariants as ending
use Rattle.code_machine.specs.declared.run.Label.{Label}
use Rattle.code_machine.specs.declared.run.Run.{Run}
use Rattle.code_machine.specs.declared.run.Saying.{Saying}
use Rattle.code_machine.specs.declared.run.Saying.TheVariants as saying
use Rattle.code_machine.specs.declared.run.Stage.{Stage}
use Rattle.code_machine.specs.declared.run.Stage.TheVariants.{Going, Returning, Ended}
use Rattle.code_machine.specs.Instructions.{IsOther}
use Rattle.code_machine.specs.Labels.{lefts_by, AreLabels, whole_at, whole_back}
use Rattle.code_machine.specs.States.{state_at, state_of, IsTask, most, IsInside, IsMachine, IsQuiet, WalksOn}

-- where an instruction leads
abbrev pub stage_of : Went → Stage
stage_of (On to) = Going to
stage_of Back = Returning

-- and a goal
abbrev pub stage_next : Next → Stage
stage_next (next.On to) = Going to
stage_next next.Back = Returning
stage_next (next.Fault f) = Ended (ending.Fault f)
stage_next (next.Write to) = Going to
stage_next (next.Newline to) = Going to

-- The choice points are as they were, with their pairs, and what was still to come is to come.
pub record Keeps (area : Area) (s : branch.State) (at : ℕ) (c : Contents) (s' : branch.State) (c' : Contents) (w : Went) : Type 0 where
  pub below : IsSameBelow s s'
  pub points : c'.points ≡ c.points
  pub runs : RunsThen area s at c s' c' w
  pub query : KeepsQueryThen area at c c' w

abbrev pub LeavesThen : Area → branch.State → ℕ → Contents → branch.State → Contents → ℕ → Went → Type 0
LeavesThen area s at c s' c' other (On to) = LeavesChoice area s at c s' to c' other
LeavesThen area s at c s' c' other Back = ⊥

-- or there is a new one
pub record Leaves (area : Area) (s : branch.State) (at : ℕ) (c : Contents) (s' : branch.State) (c' : Contents) (w : Went) : Type 0 where
  pub other : ℕ
  pub pair : s' ≡ with_pair s
  pub point : c'.points ≡ point_of c other ∷ c.points
  pub runs : LeavesThen area s at c s' c' other w
  pub query : KeepsQueryThen area at c c' w
  pub left : KeepsQuery area at c other c

-- An instruction that spends nothing leads on or back, and less is left to be done.
pub record Moves (area : Area) (s : branch.State) (at : ℕ) (c : Contents) (s' : branch.State) (c' : Contents) (w : Went) : Type 0 where
  pub safe : IsSafeThen area s' c' w
  pub moves : Keeps area s at c s' c' w ⊎ Leaves area s at c s' c' w
  pub falls : work_then area c' w < work_at area at c

-- An instruction of a clause's terms or of its frame was taken; or it is another one.
abbrev pub TakesTerm : Area → ℕ → Code → branch.State → Contents → branch.State → Contents → Option Went → Type 0
TakesTerm area at i s c s' c' (Some w) = Moves area s at c s' c' w
TakesTerm area at i s c s' c' None = (s' ≡ s) × (c' ≡ c) × IsOther i

-- ---- labels

-- a new label, where values are left for the point with so many older ones
abbrev pub labelled : ℕ → Option ValuesLeft → List Label → List Label
labelled point None ls = ls
labelled point (Some v) ls = record { point = point; values = v } ∷ ls

-- the newest label is that of the point with so many older ones, and is taken away
abbrev pub TakesValues : List Label → ℕ → List Label → Option ValuesLeft → Type 0
TakesValues ls point ls' None = (ls' ≡ ls) × ((l : Label) (rest : List Label) → ls ≡ l ∷ rest → l.point ≡ point → ⊥)
TakesValues ls point ls' (Some v) = ls ≡ record { point = point; values = v } ∷ ls'

-- ---- goals

-- what is left to be done, but for reductions, where a goal was taken
abbrev pub next_work : Area → Contents → List Label → Next → ℕ
next_work area c ls (next.On to) = whole_at area to c ls
next_work area c ls next.Back = whole_back area c ls
next_work area c ls (next.Fault f) = 0
next_work area c ls (next.Write to) = whole_at area to c ls
next_work area c ls (next.Newline to) = whole_at area to c ls

-- A reduction is spent on the goal at a place: what was still to come is that of what the machine does next.
pub record Spends (area : Area) (s : branch.State) (at : ℕ) (c : Contents) (ls : List Label) (s' : branch.State) (c' : Contents) (ls' : List Label) (x : Next) : Type 0 where
  pub safe : IsSafeNext area s' c' x
  pub labels : AreLabels area c'.points s'.heaps.below ls'
  pub runs : (number : ℕ) (prog : Program) (q : Query) → IsTask area number prog q → (n : ℕ) (k : Option ℕ) (es : List Event) (r : ℕ)
      → RunsAt area (task_of area prog q) s at c (lefts_by c.points ls) (record { budget = suc n; answers = k; events = es; reductions = r })
      → RunsNext area (task_of area prog q) s' c' (lefts_by c'.points ls') n k es r x
  pub inside : (number : ℕ) → IsInside area number c (Going at) → IsInside area number c' (stage_next x)
  pub work : next_work area c' ls' x ≤ most area * suc (whole_at area at c ls)

-- where a goal leads that was a labelling
abbrev pub next_of : Went → Next
next_of (On to) = next.On to
next_of Back = next.Back

-- what a goal says
abbrev pub saying_next : Next → Option Saying
saying_next (next.On to) = None
saying_next next.Back = None
saying_next (next.Fault f) = Some (saying.Ended (ending.Fault f))
saying_next (next.Write to) = Some (saying.Term to)
saying_next (next.Newline to) = Some saying.Newline

-- ---- the way back

-- what is left to be done where a choice point leads
abbrev pub NoMore : Area → Contents → List Label → Went → ℕ → Type 0
NoMore area c ls (On to) w = whole_at area to c ls ≤ w
NoMore area c ls Back w = whole_back area c ls < w

-- The newest choice point was come back to. It is gone, or stays with fewer values.
pub record ComesBack (area : Area) (s : branch.State) (c : Contents) (ls : List Label) (s' : branch.State) (c' : Contents) (ls' : List Label) (w : Went) : Type 0 where
  pub safe : IsSafeThen area s' c' w
  pub labels : AreLabels area c'.points s'.heaps.below ls'
  pub runs : (prog : Program) (q : Query) (f : Future) → IsNaming area (names_of area) → ReturnsTo area (task_of area prog q) s c (lefts_by c.points ls) f
      → RunsWent area (task_of area prog q) s' c' (lefts_by c'.points ls') w f
  pub inside : (number : ℕ) → IsInside area number c Returning → IsInside area number c' (stage_of w)
  pub work : NoMore area c' ls' w (whole_back area c ls)

-- ---- walks

-- The instruction at a place was taken, said nothing, and leads on or back.
pub record IsMoved (area : Area) (at : ℕ) (s : branch.State) (r : Run) (s' : branch.State) (r' : Run) (w : Went) : Type 0 where
  pub machine : IsMachine (state_at area s' r' (stage_of w))
  pub same : r'.query ≡ r.query
  pub quiet : IsQuiet (state_at area s r (Going at)) (state_at area s' r' (stage_of w))

-- So it was; or the run stands where something may have to be said.
abbrev pub IsTaken : Area → ℕ → branch.State → Run → branch.State → Run → Option Went → Type 0
IsTaken area at s r s' r' (Some w) = IsMoved area at s r s' r' w
IsTaken area at s r s' r' None = WalksOn (state_at area s r (Going at)) (state_of area s' r' false) false
