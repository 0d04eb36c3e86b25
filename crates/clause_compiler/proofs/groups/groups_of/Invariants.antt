use Rattle.std.proofs.Common.{map}
use Rattle.clause_compiler.specs.Groups.{AreGroups}
use Rattle.clause_compiler.proofs.groups.groups_of.Given as goal

abbrev pub invariant-loop-clause : goal.invariant-loop-clause
invariant-loop-clause l = AreGroups l.program l.predicates l.clause (map (λ g. g.items) l.groups.items)
