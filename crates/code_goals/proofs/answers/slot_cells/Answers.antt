use Rattle.std.proofs.Common.{arith}
use Rattle.code_goals.proofs.AnswerSlots.{slots_none, slots_more}
use Rattle.code_goals.proofs.answers.slot_cells.Goals as goal

pub loop-i-init : goal.loop-i-init
loop-i-init c = (omega arith, slots_none c.args.areas.now c.in_ok-cells.cells.items c.in_ok-cells.ensures.items)

pub slot-requires : goal.slot-requires
slot-requires c = c.requires c.loop-i.i (omega arith)

pub loop-i-preserved : goal.loop-i-preserved
loop-i-preserved c = (omega arith, slots_more c.args.areas.now c.loop-i.i c.loop-i.cells.items c.slot.result c.push.new.self.items c.loop-i.invariant.1 c.slot.ensures c.in_ok-push.ensures.items)
