use Rattle.std.proofs.Common.{◌≡◌, ◌++◌, map, take}
use Rattle.text_warnings.specs.Graphs.{unreached_among, unreached_at}
use Rattle.text_warnings.proofs.unreached_predicates.put_unreached.Given as goal

abbrev pub invariant-loop-clause : goal.invariant-loop-clause
invariant-loop-clause l = l.warnings.items ≡ l.initial.warnings.items ++ map unreached_at (unreached_among l.starts l.functors.keys l.reached.keys (take l.clause-index l.first))
