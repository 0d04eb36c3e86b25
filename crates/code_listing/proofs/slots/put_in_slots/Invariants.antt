use Rattle.std.proofs.Common.{◌≡◌, take, map, nat_eq}
use Rattle.std.specs.List.{position_or_len}
use Rattle.range_code.specs.Nodes.{rename_node}
use Rattle.code_listing.proofs.slots.put_in_slots.Given as goal

abbrev pub invariant-loop-node : goal.invariant-loop-node
invariant-loop-node l = l.named.items ≡ map (rename_node (λ y. position_or_len (nat_eq y) l.met.keys)) (take l.node-index l.nodes)
