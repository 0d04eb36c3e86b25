-- What an answer shows.
use Rattle.std.specs.Prelude.{◌≡◌, ℕ, suc, ◌<◌, List, [], ◌∷◌, length, map, Option, Some, None}
use Rattle.fd_model.specs.Goal as model
use Rattle.fd_model.specs.Goal.{Program, Query, Event}
use Rattle.heap_cells.specs.declared.Cell.{Cell}
use Rattle.machine_events.specs.declared.Shown.{Shown}
use Rattle.machine_events.specs.Events.{shown_line, ShowsTerms}
use Rattle.branch_state.specs.States as branch
use Rattle.wam_code.specs.Area.{Area, Span, HasQuery, name_of}
use Rattle.code_areas.specs.Areas.{IsSet, Contents}
use Rattle.code_meaning.specs.Registers.{AreIn}
use Rattle.code_meaning.specs.MachineStates.{Left}
use Rattle.code_safety.specs.Machine.{slot_cell}
use Rattle.code_safety.specs.RemainingEvents.{RunsAt, ReturnsTo}
use Rattle.code_goals.specs.Tasks.{task_of}

-- the code's query with a number has the names of this one, and it shows as many variables
pub record IsAsked (area : Area) (number : ℕ) (q : Query) : Type 0 where
  pub span : Span
  pub has : HasQuery area number span
  pub names : map (name_of area) span.names ≡ q.names
  pub shown : length q.names ≡ length q.shown

-- More events come after the answer, from the newest choice point on.
abbrev pub AnswersFirst : Area → branch.State → Contents → Program → Query → List Left → ℕ → Option ℕ → List Event → ℕ → Shown → Type 0
AnswersFirst area s c prog q ls n k es r x =
    (later : List Event) × (es ≡ model.Answer (shown_line q.names x) ∷ later) × ReturnsTo area (task_of area prog q) s c ls (record { budget = n; answers = k; events = later; reductions = r })

-- The answer is the first of the events that are still to come: the last one allowed, one with more to come, or one of any number.
pub record ShowsAnswer (area : Area) (s : branch.State) (at : ℕ) (c : Contents) (number : ℕ) (x : Shown) : Type 0 where
  pub terms : (span : Span) → HasQuery area number span → ShowsTerms (length span.names) x
  pub last : (prog : Program) (q : Query) (ls : List Left) (n : ℕ) (es : List Event) (r : ℕ) → IsAsked area number q
      → RunsAt area (task_of area prog q) s at c ls (record { budget = n; answers = Some 1; events = es; reductions = r }) → (es ≡ model.Answer (shown_line q.names x) ∷ model.Limit ∷ []) × (r ≡ 0)
  pub fewer : (prog : Program) (q : Query) (ls : List Left) (n j : ℕ) (es : List Event) (r : ℕ) → IsAsked area number q
      → RunsAt area (task_of area prog q) s at c ls (record { budget = n; answers = Some (suc (suc j)); events = es; reductions = r }) → AnswersFirst area s c prog q ls n (Some (suc j)) es r x
  pub any : (prog : Program) (q : Query) (ls : List Left) (n : ℕ) (es : List Event) (r : ℕ) → IsAsked area number q
      → RunsAt area (task_of area prog q) s at c ls (record { budget = n; answers = None; events = es; reductions = r }) → AnswersFirst area s c prog q ls n None es r x

-- ---- the slots

-- the first n slots hold cells
abbrev pub HasFirstSlots : ℕ → Contents → Type 0
HasFirstSlots n c = (i : ℕ) → i < n → IsSet c.slots i

-- which are these
abbrev pub AreSlots : Contents → ℕ → List Cell → Type 0
AreSlots c n cells = (length cells ≡ n) × AreIn (slot_cell c.slots) 1 cells
