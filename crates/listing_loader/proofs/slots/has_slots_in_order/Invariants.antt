use Rattle.std.proofs.Common.{◌≡◌, ◌≤◌, drop}
use Rattle.range_code.specs.Nodes.{node_variables}
use Rattle.listing_loader.specs.Marks.{are_in_order, has_slots_in_order}
use Rattle.listing_loader.proofs.slots.has_slots_in_order.Given as goal

abbrev pub invariant-loop-index : goal.invariant-loop-index
invariant-loop-index l = record {
  few : l.met ≤ l.index;
  rest : are_in_order l.met (node_variables (drop l.index l.nodes)) ≡ has_slots_in_order l.nodes;
}
