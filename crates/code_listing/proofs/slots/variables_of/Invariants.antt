use Rattle.std.proofs.Common.{◌≡◌, take}
use Rattle.fd_language.specs.Needs.{once}
use Rattle.range_code.specs.Nodes.{node_variables}
use Rattle.code_listing.proofs.slots.variables_of.Given as goal

abbrev pub invariant-loop-node : goal.invariant-loop-node
invariant-loop-node l = l.met.keys ≡ once (node_variables (take l.node-index l.nodes))
