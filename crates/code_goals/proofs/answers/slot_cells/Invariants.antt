use Rattle.std.proofs.Common.{◌≤◌}
use Rattle.code_goals.specs.Answers.{AreSlots}
use Rattle.code_goals.proofs.answers.slot_cells.Given as goal

abbrev pub invariant-loop-i : goal.invariant-loop-i
invariant-loop-i l = (l.i ≤ l.fn.count) × AreSlots l.fn.areas l.i l.cells.items
