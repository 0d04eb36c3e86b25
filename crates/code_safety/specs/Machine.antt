-- The registers, the slots and the continuations of code in a machine's areas.
use Rattle.std.specs.Prelude.{◌≡◌, ℕ, zero, suc, ◌-◌, ◌<◌, ◌≤◌, List, length, map, Option, Some, None}
use Rattle.heap_cells.specs.declared.Cell.{Cell}
use Rattle.wam_code.specs.declared.instruction.Register.{Register}
use Rattle.wam_code.specs.declared.instruction.Register.TheVariants.{X, Y}
use Rattle.code_areas.specs.Areas.{Places, cell_at, level_at, Return, Contents}
use Rattle.code_meaning.specs.Registers.{Registers, Saved, cell_in}

-- Code numbers slots from 1 on, and the areas from 0 on.
abbrev pub slot_cell : Places → ℕ → Option Cell
slot_cell cells zero = None
slot_cell cells (suc n) = cell_at cells n

abbrev pub slot_level : Places → ℕ → Option ℕ
slot_level cells zero = None
slot_level cells (suc n) = level_at cells n

-- the frame has a slot with this number
pub record IsSlot (n : ℕ) (slots : Places) : Type 0 where
  pub some : 1 ≤ n
  pub within : n - 1 < length slots

-- a register has the same number in both
abbrev pub registers_of : Contents → Registers
registers_of c = record { x = cell_at c.registers; y = slot_cell c.slots; levels = slot_level c.slots; noted = c.noted }

abbrev pub saved_of : Return → Saved
saved_of r = record { to = r.to; slots = slot_cell r.slots; levels = slot_level r.slots }

abbrev pub stack_of : Contents → List Saved
stack_of c = map saved_of c.returns

-- the register holds a cell
abbrev pub HasCell : Contents → Register → Type 0
HasCell c r = (d : Cell) × (cell_in (registers_of c) r ≡ Some d)

-- a cell may be put there: into each argument register, and into each slot of the frame
abbrev pub CanHold : Contents → Register → Type 0
CanHold c (X n) = Unit {0}
CanHold c (Y zero) = ⊥
CanHold c (Y (suc n)) = n < length c.slots

-- the continuations and the choice points are as they were
pub record IsSameBehind (old new : Contents) : Type 0 where
  pub returns : new.returns ≡ old.returns
  pub points : new.points ≡ old.points
