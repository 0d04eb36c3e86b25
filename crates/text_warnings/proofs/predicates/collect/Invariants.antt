use Rattle.std.proofs.Common.{take}
use Rattle.text_warnings.proofs.ClausePredicates.{HasCollected}
use Rattle.text_warnings.proofs.predicates.collect.Given as goal

abbrev pub invariant-loop-clause : goal.invariant-loop-clause
invariant-loop-clause l = HasCollected (take l.clause-index l.clauses) l.functors.keys l.first.items l.initial.warnings.items l.warnings.items
