use Rattle.std.proofs.Common.{take}
use Rattle.clause_compiler.specs.ClauseKeys.{AreKeyed}
use Rattle.clause_compiler.proofs.tables.add_all.Given as goal

abbrev pub invariant-loop-i : goal.invariant-loop-i
invariant-loop-i l = AreKeyed l.program (take l.i l.clauses) l.keyed
