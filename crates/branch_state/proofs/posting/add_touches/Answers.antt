use Rattle.branch_state.proofs.Touches.{postings_step}
use Rattle.branch_state.proofs.posting.add_touches.Goals as goal

pub loop-touch-preserved : goal.loop-touch-preserved
loop-touch-preserved c = postings_step c.args.list.now.items c.loop-touch.list.items c.add_touch.new.list.items c.args.touches.now c.loop-touch.touch-index _
    c.loop-touch-test.true c.loop-touch.invariant c.in_ok-add_touch.ensures
