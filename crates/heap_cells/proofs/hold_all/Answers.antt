use Rattle.heap_cells.proofs.LooseVariables.{held_step}
use Rattle.heap_cells.proofs.hold_all.Goals as goal

pub loop-c-preserved : goal.loop-c-preserved
loop-c-preserved c = held_step _ c.args.variables.now.items c.hold.new.variables.items c.loop-c.variables.items c.args.cells.now c.loop-c.c-index c.hold.ensures c.loop-c.invariant c.loop-c-test.true
