use Rattle.std.proofs.Common.{◌≡◌}
use Rattle.clause_check.specs.Programs.{goals_between}
use Rattle.clause_code.specs.LevelSlots.{each_need}
use Rattle.clause_code.proofs.needs.most_needed.Given as goal

abbrev pub invariant-loop-i : goal.invariant-loop-i
invariant-loop-i l = (l.most ≡ each_need (goals_between l.program l.fn.part.from l.i))
