use Rattle.std.proofs.Common.{ℕ, ◌<◌, get_or}
use Rattle.fd_language.specs.declared.range_node.RangeNode.{RangeNode}
use Rattle.listing_reader.specs.NumberBounds.{HasSize}
use Rattle.held_code.proofs.ranges.hold_nodes.Given as goal

abbrev pub invariant-loop-node : goal.invariant-loop-node
invariant-loop-node l = (k : ℕ) (d : RangeNode) → k < l.node-index → HasSize (get_or l.nodes k d)
