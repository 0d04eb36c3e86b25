use Rattle.std.proofs.Common.{get_or, refl}
use Rattle.monotone_check.proofs.NodeWalk.{walk_start, walk_step, walk_gives}
use Rattle.monotone_check.proofs.node_walk.summarize.Goals as goal

pub loop-number-init : goal.loop-number-init
loop-number-init c = walk_start (λ n. get_or c.args.places.now n 0) _ _ c.requires.spelled c.new-pending.ensures.ranges c.new-pending.ensures.terms

pub loop-number-preserved : goal.loop-number-preserved
loop-number-preserved c =
    walk_step (λ n. get_or c.args.places.now n 0) c.loop-number.number c.args.nodes.now _ c.loop-number.pending _ c.loop-number-test.true c.loop-number.invariant
    (λ ns rs ts p. c.in_ok-take.ensures (λ n. get_or c.args.places.now n 0) c.loop-number.number ns rs ts refl p)

pub returns : goal.returns
returns c =
    walk_gives (λ n. get_or c.args.places.now n 0) c.loop-number.number c.args.nodes.now c.loop-number.pending _ c.pop.result c.unwrap.result
    c.loop-number-test.false c.loop-number.auto.number-end c.requires.spelled c.loop-number.invariant
    c.pop.ensures.items c.unwrap.ensures
