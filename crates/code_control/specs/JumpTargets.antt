-- Where calls and switches lead.
use Rattle.std.specs.Prelude.{◌≡◌, ℕ, Some}
use Rattle.heap_cells.specs.declared.Cell.{Cell}
use Rattle.heap_cells.specs.declared.Seen.{Seen}
use Rattle.heap_cells.specs.SeenCells.{IsSeen}
use Rattle.branch_state.specs.States as branch
use Rattle.wam_code.specs.declared.instruction.Code.{Code}
use Rattle.wam_code.specs.declared.instruction.Code.TheVariants as step
use Rattle.wam_code.specs.declared.parts.Entry.{Entry}
use Rattle.wam_code.specs.Area.{Area, Holds, HasEntry}
use Rattle.code_areas.specs.Areas.{cell_at, Contents}

-- the code of the predicate with this number begins at a place
abbrev pub BeginsAt : Area → ℕ → ℕ → Type 0
BeginsAt area e at = (p : Entry) × HasEntry area e p × (p.at ≡ at)

-- where an instruction at a place leads if it is a jump, and else the place
abbrev pub past_jump : Code → ℕ → ℕ
past_jump (step.Jump to) at = to
past_jump i at = at

abbrev pub IsPastJump : Area → ℕ → ℕ → Type 0
IsPastJump area at to = (i : Code) × Holds area at i × (past_jump i at ≡ to)

-- What the argument with this number shows is such.
pub record ArgumentShows (s : branch.State) (c : Contents) (n : ℕ) (such : Seen → Type 0) : Type 0 where
  pub cell : Cell
  pub there : cell_at c.registers n ≡ Some cell
  pub shown : Seen
  pub is_seen : IsSeen s.heaps.now cell shown
  pub so : such shown
