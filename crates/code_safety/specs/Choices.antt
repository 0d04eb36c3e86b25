-- The choice points of a machine: those of its areas, with the pairs of the branch that lie below.
use Rattle.std.specs.Prelude.{ℕ, List, [], ◌∷◌, map}
use Rattle.fd_model.specs.Levels.{Level}
use Rattle.heap_cells.specs.Cells.{Cells}
use Rattle.branch_state.specs.States as branch
use Rattle.code_areas.specs.Areas.{cell_at, Point, Contents}
use Rattle.code_meaning.specs.MachineStates.{Left, Choice}
use Rattle.code_safety.specs.Machine.{slot_cell, slot_level, saved_of}

-- the current registers, slots and continuations, with what was noted, as a choice point, to come back to at a place
abbrev pub point_of : Contents → ℕ → Point
point_of c to = record { place = to; registers = c.registers; slots = c.slots; returns = c.returns; noted = c.noted }

-- a point on its own heap and level of the store, with what is left there
abbrev pub choice_of : Left → Point → Cells → Level → Choice
choice_of l p h v = record {
  left = l;
  registers = record { x = cell_at p.registers; y = slot_cell p.slots; levels = slot_level p.slots; noted = p.noted };
  stack = map saved_of p.returns;
  heap = h;
  store = v.posted;
}

-- The points, the newest first, and so are the heaps, the levels and what is left at each point. The branch's last pair belongs to none.
abbrev pub choices_of : List Point → List Cells → List Level → List Left → List Choice
choices_of (p ∷ ps) (h ∷ hs) (v ∷ vs) (l ∷ ls) = choice_of l p h v ∷ choices_of ps hs vs ls
choices_of _ _ _ _ = []

-- those of a machine
abbrev pub choices_in : branch.State → Contents → List Left → List Choice
choices_in s c ls = choices_of c.points s.heaps.below s.levels.below ls
