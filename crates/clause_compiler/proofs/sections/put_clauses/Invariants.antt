use Rattle.clause_compiler.specs.Sections.{ArePut, IsClausePiece, its_place}
use Rattle.clause_compiler.proofs.sections.put_clauses.Given as goal

abbrev pub invariant-loop-clause : goal.invariant-loop-clause
invariant-loop-clause l = ArePut its_place (IsClausePiece l.program l.predicates) l.clause l.initial.code.items l.code.items l.places.items
