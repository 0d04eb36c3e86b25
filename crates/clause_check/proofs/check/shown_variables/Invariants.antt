use Rattle.std.proofs.Common.{take}
use Rattle.clause_check.specs.Parts.{AreShown}
use Rattle.clause_check.proofs.check.shown_variables.Given as goal

abbrev pub invariant-loop-number : goal.invariant-loop-number
invariant-loop-number l = AreShown l.pool (take l.number l.names) l.shown.names.items l.shown.numbers.items
