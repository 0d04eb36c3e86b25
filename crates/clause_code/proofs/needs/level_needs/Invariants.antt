use Rattle.clause_code.specs.LevelSlots.{AreNeeds}
use Rattle.clause_code.proofs.needs.level_needs.Given as goal

abbrev pub invariant-loop-i : goal.invariant-loop-i
invariant-loop-i l = AreNeeds l.program l.i l.needs.items
