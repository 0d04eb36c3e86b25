use Rattle.std.proofs.Common.{drop}
use Rattle.code_safety.specs.declared.instruction_outcomes.Went.{Went}
use Rattle.code_control.specs.Rows.{Finds}
use Rattle.code_control.proofs.rows.find_by_rows.Given as goal

abbrev pub invariant-loop-row : goal.invariant-loop-row
invariant-loop-row l = (w : Went) → Finds l.seen (drop l.row-index l.table) w → Finds l.seen l.table w
