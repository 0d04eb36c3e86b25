use Rattle.std.proofs.Common.{take}
use Rattle.text_warnings.proofs.OpenGoals.{AreOpen}
use Rattle.text_warnings.proofs.open_variables.put_found.Given as goal

abbrev pub invariant-loop-occurrence : goal.invariant-loop-occurrence
invariant-loop-occurrence l = AreOpen l.pool l.names l.passed l.negated (take l.occurrence-index l.found) l.initial.warnings.items l.warnings.items
