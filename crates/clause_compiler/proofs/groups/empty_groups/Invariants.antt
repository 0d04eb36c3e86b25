use Rattle.std.proofs.Common.{◌≡◌, [], map, take}
use Rattle.clause_compiler.proofs.groups.empty_groups.Given as goal

abbrev pub invariant-loop-predicate : goal.invariant-loop-predicate
invariant-loop-predicate l = map (λ g. g.items) l.groups.items ≡ map (λ p. []) (take l._predicate l.predicates)
