use Rattle.std.proofs.Common.{nat_eq}
use Rattle.std.specs.List.{position_or_len}
use Rattle.range_code.specs.Nodes.{rename_node}
use Rattle.range_code.proofs.CompiledRanges.{mapped_more}
use Rattle.range_code.proofs.compile.name_slots.Goals as goal

pub loop-node-preserved : goal.loop-node-preserved
loop-node-preserved c = mapped_more (rename_node (λ y. position_or_len (nat_eq y) c.args.numbers.now.keys)) c.args.nodes.now c.loop-node.node-index _
    c.loop-node.named.items c.push.new.self.items c.name_slot.result c.loop-node-test.true c.loop-node.invariant
    c.in_ok-push.ensures.items c.name_slot.ensures
