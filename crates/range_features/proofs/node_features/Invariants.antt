use Rattle.std.proofs.Common.{◌≡◌, ◌++◌, drop}
use Rattle.fd_language.specs.Features.{each_once, node_features}
use Rattle.range_features.specs.MetPairs.{unseen}
use Rattle.range_features.proofs.node_features.Given as goal

abbrev pub invariant-loop-node : goal.invariant-loop-node
invariant-loop-node l = l.found.items ++ unseen l.seen (drop l.node-index l.nodes) ≡ each_once (node_features l.nodes)
