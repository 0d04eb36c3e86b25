use Rattle.term_instructions.specs.WriteMode.{AreVariablesAdded}
use Rattle.term_instructions.proofs.write_mode.push_variables.Given as goal

abbrev pub invariant-loop-i : goal.invariant-loop-i
invariant-loop-i g l = AreVariablesAdded l.i l.initial.branch l.initial.cells.items l.branch l.cells.items
