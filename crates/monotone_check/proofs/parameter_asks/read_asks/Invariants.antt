use Rattle.monotone_check.specs.OpenTerms.{IsAskedSoFar}
use Rattle.monotone_check.proofs.parameter_asks.read_asks.Given as goal

abbrev pub invariant-loop-node : goal.invariant-loop-node
invariant-loop-node l = IsAskedSoFar l.node-index l.nodes l.reading
