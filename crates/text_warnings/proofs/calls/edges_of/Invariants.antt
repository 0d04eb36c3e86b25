use Rattle.std.proofs.Common.{take, map}
use Rattle.text_warnings.specs.Graphs.{items_of, AreEdges}
use Rattle.text_warnings.proofs.calls.edges_of.Given as goal

abbrev pub invariant-loop-clause : goal.invariant-loop-clause
invariant-loop-clause l = AreEdges l.pool l.functors.keys (take l.clause-index l.clauses) (map items_of l.edges.items)
