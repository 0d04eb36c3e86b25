-- What a register or a slot holds.
use Rattle.code_areas.specs.Areas.{Held, nothing_held, holds, level}
use Rattle.heap_cells.specs.declared.Cell.TheVariants as cell
use Rattle.code_areas.specs.declared.Kept.{Kept}
use Rattle.code_areas.specs.declared.Kept.TheVariants as kept

-- the cell or the level that is there, if one is set
abbrev pub held_by : Kept → Held
held_by (kept.Ref n) = holds (cell.Ref n)
held_by (kept.Int z) = holds (cell.Int z)
held_by (kept.Atom a) = holds (cell.Atom a)
held_by (kept.Struct n) = holds (cell.Struct n)
held_by (kept.Level n) = level n
held_by kept.Unset = nothing_held

-- what is there for a cell, for a level, or for none
abbrev pub kept_for : Held → Kept
kept_for (holds (cell.Ref n)) = kept.Ref n
kept_for (holds (cell.Int z)) = kept.Int z
kept_for (holds (cell.Atom a)) = kept.Atom a
kept_for (holds (cell.Struct n)) = kept.Struct n
kept_for (level n) = kept.Level n
kept_for nothing_held = kept.Unset
