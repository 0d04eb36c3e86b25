use Rattle.std.proofs.Common.{map}
use Rattle.wam_code.specs.Area.{span_of}
use Rattle.clause_compiler.specs.Sections.{ArePut, IsQueryOf, its_span}
use Rattle.clause_compiler.proofs.sections.put_queries.Given as goal

abbrev pub invariant-loop-query : goal.invariant-loop-query
invariant-loop-query l = ArePut (its_span l.program) (IsQueryOf l.program l.predicates) l.query l.initial.code.items l.code.items (map span_of l.queries.items)
