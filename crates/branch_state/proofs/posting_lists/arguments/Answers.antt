use Rattle.branch_state.proofs.ConstraintSteps.{at_linked}
use Rattle.branch_state.proofs.posting_lists.arguments.Goals as goal

pub variable_of-requires : goal.variable_of-requires
variable_of-requires c = at_linked c.args.heap.now.now c.args.slots.now c.loop-x.x-index 0 c.loop-x-test.true c.requires
