-- What a machine's areas hold wherever verified code goes on.
use Rattle.std.specs.Prelude.{◌≡◌, ℕ, true, List, [], ◌∷◌, length, Option, Some, None, slice_get}
use Rattle.fd_language.specs.Family.{has}
use Rattle.heap_cells.specs.declared.Cell.{Cell as HeapCell}
use Rattle.heap_cells.specs.declared.Seen.{Seen}
use Rattle.heap_cells.specs.Cells.{Cells}
use Rattle.heap_cells.specs.SeenCells.{IsSeen}
use Rattle.branch_state.specs.States as branch
use Rattle.branch_state.specs.States.{IsCell, IsSound, IsSoundBelow, with_heap}
use Rattle.wam_code.specs.Area.{Slot, Cell, Level, State, Span, Area, HasState, HasQuery}
use Rattle.wam_code.specs.CodeRegions.{IsOutside}
use Rattle.wam_code.specs.VerifiedCode.{IsIn, IsVerifiedBy}
use Rattle.code_areas.specs.Areas.{Places, cell_at, IsSet, IsLevelSet, Return, Point, Contents}
use Rattle.code_safety.specs.declared.instruction_outcomes.Went.{Went}
use Rattle.code_safety.specs.declared.instruction_outcomes.Went.TheVariants.{On, Back}

-- ---- one place

-- each register that a state names is set
abbrev pub HasRegisters : List ℕ → Places → Type 0
HasRegisters regs cells = (n : ℕ) → has regs n ≡ true → IsSet cells n

-- There are as many slots as a state's frame has; each that is a cell there holds one, and each that is a level there a level.
abbrev pub HasSlots : Option (List Slot) → Places → Type 0
HasSlots None cells = cells ≡ []
HasSlots (Some slots) cells = (length cells ≡ length slots) × ((n : ℕ) → slice_get slots n ≡ Some Cell → IsSet cells n) × ((n : ℕ) → slice_get slots n ≡ Some Level → IsLevelSet cells n)

-- the registers and slots have what a state says
pub record Fits (s : State) (registers slots : Places) : Type 0 where
  pub set : HasRegisters s.regs registers
  pub frame : HasSlots s.frame slots

-- By the states of the code's places, this one is reached with what it needs. So many arguments of a structure are owed.
pub record IsReached (ss : List State) (at owed : ℕ) (registers slots : Places) : Type 0 where
  pub state : State
  pub has : HasState ss at state
  pub owes : state.owed ≡ owed
  pub fits : Fits state registers slots

-- the cells in these registers or slots are the branch's
abbrev pub AreOwn : branch.State → Places → Type 0
AreOwn s cells = (n : ℕ) (d : HeapCell) → cell_at cells n ≡ Some d → IsCell s d

-- ---- continuations

-- Each goes on without registers, with cells of the branch in its slots.
abbrev pub AreReturns : List State → branch.State → List Return → Type 0
AreReturns ss s [] = Unit {0}
AreReturns ss s (r ∷ rs) = IsReached ss r.to 0 [] r.slots × AreOwn s r.slots × AreReturns ss s rs

-- The places of a query's code are those with nothing behind them.
abbrev pub AreBehind : Area → ℕ → List Return → Type 0
AreBehind area at [] = (n : ℕ) × (q : Span) × HasQuery area n q × IsIn q at
AreBehind area at (r ∷ rs) = IsOutside area at × AreBehind area r.to rs

-- ---- the machine

-- It is safe to go on at a place, with these registers, slots and continuations.
pub record IsThread (area : Area) (ss : List State) (s : branch.State) (at owed : ℕ) (registers slots : Places) (returns : List Return) : Type 0 where
  pub reached : IsReached ss at owed registers slots
  pub registers_own : AreOwn s registers
  pub slots_own : AreOwn s slots
  pub returns_own : AreReturns ss s returns
  pub behind : AreBehind area at returns

-- It is safe to come back to each choice point, on its own heap. The first heap belongs to none.
abbrev pub ArePoints : Area → List State → branch.State → List Point → List Cells → Type 0
ArePoints area ss s [] hs = (h : Cells) × (hs ≡ h ∷ [])
ArePoints area ss s (p ∷ ps) [] = ⊥
ArePoints area ss s (p ∷ ps) (h ∷ hs) = IsThread area ss (with_heap s h) p.place 0 p.registers p.slots p.returns × ArePoints area ss s ps hs

-- The code is verified, and it is safe to go on at the place and to come back to each choice point. So many arguments of a structure are owed.
pub record IsSafe (area : Area) (s : branch.State) (at owed : ℕ) (c : Contents) : Type 0 where
  pub states : List State
  pub verified : IsVerifiedBy area states
  pub atoms : s.atoms ≡ length area.pool.names
  pub sound : IsSound s
  pub here : IsThread area states s at owed c.registers c.slots c.returns
  pub points : ArePoints area states s c.points s.heaps.below

-- It is safe to come back.
pub record IsSafeBack (area : Area) (s : branch.State) (c : Contents) : Type 0 where
  pub states : List State
  pub verified : IsVerifiedBy area states
  pub atoms : s.atoms ≡ length area.pool.names
  pub sound : IsSoundBelow s
  pub points : ArePoints area states s c.points s.heaps.below

-- where an instruction leads is safe
abbrev pub IsSafeThen : Area → branch.State → Contents → Went → Type 0
IsSafeThen area s c (On to) = IsSafe area s to 0 c
IsSafeThen area s c Back = IsSafeBack area s c

-- what the first argument's register holds is seen so
abbrev pub FirstIsSeen : branch.State → Contents → Seen → Type 0
FirstIsSeen s c x = (d : HeapCell) × (cell_at c.registers 1 ≡ Some d) × IsSeen s.heaps.now d x
