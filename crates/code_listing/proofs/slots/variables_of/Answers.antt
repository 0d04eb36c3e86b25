use Rattle.code_listing.proofs.SlotNodes.{met_more}
use Rattle.code_listing.proofs.slots.variables_of.Goals as goal

pub loop-node-preserved : goal.loop-node-preserved
loop-node-preserved c = met_more c.args.nodes.now c.loop-node.node-index _ c.loop-node.met.keys c.put_variable.new.met.keys c.loop-node-test.true c.loop-node.invariant c.in_ok-put_variable.ensures
