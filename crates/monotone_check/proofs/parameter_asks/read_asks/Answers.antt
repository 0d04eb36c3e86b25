use Rattle.monotone_check.proofs.NodeNeeds.{asks_start, asks_step, asks_end}
use Rattle.monotone_check.proofs.parameter_asks.read_asks.Goals as goal

pub loop-node-init : goal.loop-node-init
loop-node-init c = asks_start c.args.nodes.now c.new-reading.result c.requires c.new-reading.ensures.terms c.new-reading.ensures.places

pub loop-node-preserved : goal.loop-node-preserved
loop-node-preserved c = asks_step c.loop-node.node-index c.args.nodes.now _ c.loop-node.reading _ c.loop-node-test.true c.loop-node.invariant c.in_ok-take.ensures

pub returns : goal.returns
returns c = asks_end c.loop-node.node-index c.args.nodes.now c.loop-node.reading c.loop-node-test.false c.loop-node.invariant
