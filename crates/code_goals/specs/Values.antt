-- The values that a labelling tries.
use Rattle.std.specs.Prelude.{◌≡◌, ℕ, suc, ◌+◌, ◌*◌, nat_le, ◌≤◌, ◌<◌, List, [], ◌∷◌, ◌++◌, length, filter, Option, Some, None}
use Rattle.fd_language.specs.declared.TheConstants.{INFINITY}
use Rattle.fd_language.specs.Term.{Var}
use Rattle.fd_model.specs.Goal.{Program, Query}
use Rattle.heap_cells.specs.declared.Cell.TheVariants as cell
use Rattle.heap_cells.specs.Cells.{Cells}
use Rattle.heap_cells.specs.Terms.{Naming, term_of}
use Rattle.branch_state.specs.States as branch
use Rattle.branch_state.specs.States.{IsSameBelow, IsSound, with_pair}
use Rattle.wam_code.specs.Area.{Area}
use Rattle.code_areas.specs.Areas.{Contents}
use Rattle.code_meaning.specs.MachineStates.{Left, values}
use Rattle.code_safety.specs.Choices.{point_of}
use Rattle.code_safety.specs.Safety.{IsSafeThen}
use Rattle.code_safety.specs.RemainingEvents.{Task, Future, RunsAt, ReturnsTo}
use Rattle.code_safety.specs.Work.{work_at, work_then, values_work}
use Rattle.code_safety.specs.declared.instruction_outcomes.Went.{Went}
use Rattle.code_safety.specs.declared.instruction_outcomes.Went.TheVariants.{On, Back}
use Rattle.code_goals.specs.declared.labels.ValuesLeft.{ValuesLeft}
use Rattle.code_goals.specs.declared.labels.Tried.{Tried}
use Rattle.code_goals.specs.declared.labels.Labelled.{Labelled}
use Rattle.code_goals.specs.declared.labels.Labelled.TheVariants.{Took, Tries}
use Rattle.code_goals.specs.Tasks.{names_of, task_of}
use Rattle.code_goals.specs.GoalOutcomes.{IsSafeNext, LeadsNext, RunsNext, SpendsTo, TakesBy}

-- the values that are left
abbrev pub numbers_left : ValuesLeft → List ℕ
numbers_left v = filter (λ k. nat_le v.from k) v.values

-- there are some
abbrev pub HasValues : ValuesLeft → Type 0
HasValues v = 0 < length (numbers_left v)

-- a variable of the heap that is open
abbrev pub IsOpenAt : Cells → ℕ → Type 0
IsOpenAt h i = (name : Naming) × (term_of name h (cell.Ref i) ≡ Var i)

-- The variable is an open one of the heap.
pub record IsOpen (area : Area) (h : Cells) (v : ValuesLeft) : Type 0 where
  pub own : v.variable < length h.slots
  pub term : term_of (names_of area) h (cell.Ref v.variable) ≡ Var v.variable

-- ---- a choice point with values, to come back to the labelling at a place

-- what is left there
abbrev pub left_of : ℕ → ValuesLeft → Left
left_of at v = values (numbers_left v) v.variable at

-- the areas with such a point
abbrev pub pointed : Contents → ℕ → Contents
pointed c at = record c { points = point_of c at ∷ c.points }

-- It is there where values are left for it.
abbrev pub lefts_of : ℕ → Option ValuesLeft → List Left
lefts_of at None = []
lefts_of at (Some v) = left_of at v ∷ []

abbrev pub with_point : Contents → ℕ → Option ValuesLeft → Contents
with_point c at None = c
with_point c at (Some v) = pointed c at

-- with its pair below the current one
abbrev pub with_mark : branch.State → Option ValuesLeft → branch.State
with_mark s None = s
with_mark s (Some v) = with_pair s

-- They are kept, if any is left.
abbrev pub IsKept : ValuesLeft → Option ValuesLeft → Type 0
IsKept v None = numbers_left v ≡ []
IsKept v (Some w) = (w ≡ v) × HasValues v

-- in a new choice point
pub record KeepsValues (s : branch.State) (at : ℕ) (c : Contents) (v : ValuesLeft) (s' : branch.State) (c' : Contents) (o : Option ValuesLeft) : Type 0 where
  pub kept : IsKept v o
  pub marked : s' ≡ with_mark s o
  pub pointed_at : c' ≡ with_point c at o
  pub sound : IsSound s'

-- ---- a value is tried

-- what is still to come where the machine went
abbrev pub RunsWent : Area → Task → branch.State → Contents → List Left → Went → Future → Type 0
RunsWent area t s c ls (On to) f = RunsAt area t s to c ls f
RunsWent area t s c ls Back f = ReturnsTo area t s c ls f

-- it stays at the labelling's place, if it goes on
abbrev pub StaysAt : ℕ → Went → Type 0
StaysAt at (On to) = to ≡ at
StaysAt at Back = Unit {0}

-- the work of a machine that goes somewhere, with the values that are left at its choice points
abbrev pub work_left : Area → Contents → Went → List Left → ℕ
work_left area c w ls = work_then area c w + values_work area c.points ls

-- Of a machine that came back to these values, and so took their choice point away: the least was tried, and the others are kept in a new choice point, if
-- there are any. Whatever was still to come before it came back is to come now, and the work falls.
pub record IsTried (area : Area) (s : branch.State) (at : ℕ) (c : Contents) (v : ValuesLeft) (s' : branch.State) (c' : Contents) (t : Tried) : Type 0 where
  pub kept : c' ≡ with_point c at t.left
  pub below : IsSameBelow (with_mark s t.left) s'
  pub safe : IsSafeThen area s' c' t.went
  pub leads : StaysAt at t.went
  pub opened : (w : ValuesLeft) → t.left ≡ Some w → IsOpen area s.heaps.now w
  pub some : (w : ValuesLeft) → t.left ≡ Some w → HasValues w
  pub falls : (ls : List Left) → work_left area c' t.went (lefts_of at t.left ++ ls) < work_left area (pointed c at) Back (left_of at v ∷ ls)
  pub runs : (prog : Program) (q : Query) (ls : List Left) (f : Future) → ReturnsTo area (task_of area prog q) (with_pair s) (pointed c at) (left_of at v ∷ ls) f
      → RunsWent area (task_of area prog q) s' c' (lefts_of at t.left ++ ls) t.went f

-- ---- a labelling is taken

-- A goal was taken, or a value was tried.
abbrev pub IsSafeLabelled : Area → branch.State → Contents → Labelled → Type 0
IsSafeLabelled area s c (Took x) = IsSafeNext area s c x
IsSafeLabelled area s c (Tries t) = IsSafeThen area s c t.went

-- Nothing but the goal in front is gone, or the least value of a variable was tried, and the others are kept in a new choice point.
abbrev pub Labels : Area → branch.State → ℕ → Contents → branch.State → Contents → Labelled → Type 0
Labels area s at c s' c' (Took x) = (s' ≡ s) × (c' ≡ c) × TakesBy area s at c (λ t ls n k es r. RunsNext area t s c ls n k es r x)
Labels area s at c s' c' (Tries t) =
    (c' ≡ with_point c at t.left) × IsSameBelow (with_mark s t.left) s' × ((w : ValuesLeft) → t.left ≡ Some w → IsOpen area s.heaps.now w)
    × ((w : ValuesLeft) → t.left ≡ Some w → HasValues w)
    × TakesBy area s at c (λ task ls n k es r. SpendsTo (RunsWent area task s' c' (lefts_of at t.left ++ ls) t.went) [] n k es r)

-- Where nothing is tried, the machine goes on at the next place, if it goes on, and else it stays at the same one.
abbrev pub LeadsLabelled : ℕ → Labelled → Type 0
LeadsLabelled at (Took x) = LeadsNext at x
LeadsLabelled at (Tries t) = StaysAt at t.went

-- Where a value is tried, the work is so much at most: once for the choice points that there are, and once for each number that a variable can have.
abbrev pub BringsMost : Area → ℕ → Contents → Contents → Labelled → Type 0
BringsMost area at c c' (Took x) = Unit {0}
BringsMost area at c c' (Tries t) =
    (ls : List Left) → work_left area c' t.went (lefts_of at t.left ++ ls) ≤ suc (suc INFINITY) * suc (work_at area at c + values_work area c.points ls)
