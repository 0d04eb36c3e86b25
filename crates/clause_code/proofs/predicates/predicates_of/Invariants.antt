use Rattle.std.proofs.Common.{length}
use Rattle.clause_code.specs.Predicates.{Gathered}
use Rattle.clause_code.proofs.predicates.predicates_of.Given as goal

abbrev pub invariant-loop-i : goal.invariant-loop-i
invariant-loop-i l = Gathered l.program (length l.program.clauses) l.i l.functors.keys
