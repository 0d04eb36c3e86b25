use Rattle.range_code.proofs.CompiledRanges.{numbered_more}
use Rattle.range_code.proofs.compile.number_variables.Goals as goal

pub loop-node-preserved : goal.loop-node-preserved
loop-node-preserved c = numbered_more c.args.nodes.now c.loop-node.node-index _ c.loop-node.numbered c.add_node.new.self c.loop-node-test.true c.loop-node.invariant c.in_ok-add_node.ensures

pub loop-node-init : goal.loop-node-init
loop-node-init c = c.new-numbered.ensures
