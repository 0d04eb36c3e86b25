use Rattle.std.proofs.Common.{◌+◌, ◌≤◌, [], drop}
use Rattle.fd_language.specs.PostfixRanges.{built}
use Rattle.fd_language.specs.Counts.{IsReached}
use Rattle.fd_language.proofs.operand_counts.spells_range.Given as goal

abbrev pub invariant-loop-node : goal.invariant-loop-node
invariant-loop-node l = (l.waiting.ranges + l.waiting.terms ≤ l.node-index) × IsReached (built l.nodes [] []) (drop l.node-index l.nodes) l.waiting.ranges l.waiting.terms
