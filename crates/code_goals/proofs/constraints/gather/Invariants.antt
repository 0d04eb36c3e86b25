use Rattle.std.proofs.Common.{◌≤◌}
use Rattle.code_goals.specs.Arguments.{IsGathered}
use Rattle.code_goals.proofs.constraints.gather.Given as goal

abbrev pub invariant-loop-i : goal.invariant-loop-i
invariant-loop-i l = (l.i ≤ l.fn.count) × IsGathered l.fn.areas l.i l.cells.items
