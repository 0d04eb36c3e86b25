-- The arguments of a goal, in the first registers.
use Rattle.std.specs.Prelude.{◌≡◌, ℕ, ◌≤◌, List, length}
use Rattle.fd_language.specs.Term.{Comp}
use Rattle.heap_cells.specs.declared.Cell.{Cell}
use Rattle.heap_cells.specs.Terms.{term_of, terms_by}
use Rattle.term_pool.specs.declared.AtomId.{AtomId}
use Rattle.branch_state.specs.States.{State}
use Rattle.wam_code.specs.Area.{Area}
use Rattle.code_areas.specs.Areas.{cell_at, IsSet, Contents}
use Rattle.code_meaning.specs.Registers.{AreIn}
use Rattle.code_goals.specs.Tasks.{names_of}

-- the registers from 1 to n hold cells
abbrev pub HasArguments : ℕ → Contents → Type 0
HasArguments n c = (i : ℕ) → 1 ≤ i → i ≤ n → IsSet c.registers i

-- which are these
abbrev pub IsGathered : Contents → ℕ → List Cell → Type 0
IsGathered c n cells = (length cells ≡ n) × AreIn (cell_at c.registers) 1 cells

-- The cell stands for a goal with n arguments, which are in the first registers. Its name is no matter.
pub record IsGoal (area : Area) (s : State) (c : Contents) (n : ℕ) (d : Cell) : Type 0 where
  pub name : AtomId
  pub cells : List Cell
  pub gathered : IsGathered c n cells
  pub term : term_of (names_of area) s.heaps.now d ≡ Comp (names_of area name) (terms_by (term_of (names_of area) s.heaps.now) cells)
