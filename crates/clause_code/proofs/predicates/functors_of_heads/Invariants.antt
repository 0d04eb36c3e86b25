use Rattle.clause_code.specs.Predicates.{Gathered}
use Rattle.clause_code.proofs.predicates.functors_of_heads.Given as goal

abbrev pub invariant-loop-clause : goal.invariant-loop-clause
invariant-loop-clause l = Gathered l.program l.clause 0 l.functors.keys
