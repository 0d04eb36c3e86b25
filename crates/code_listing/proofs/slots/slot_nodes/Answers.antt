use Rattle.code_listing.proofs.SlotNodes.{in_slots_are}
use Rattle.code_listing.proofs.slots.slot_nodes.Goals as goal

pub returns : goal.returns
returns c = in_slots_are c.args.range.now c.nodes-nodes.result.now c.in_ok-named.named.items c.in_ok-met.met.keys (cc) c.in_ok-met.ensures c.in_ok-named.ensures
