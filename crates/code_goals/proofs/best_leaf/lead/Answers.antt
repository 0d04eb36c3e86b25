use Rattle.std.proofs.Common.{subst, arith}
use Rattle.code_safety.proofs.Lemmas.{below_both}
use Rattle.code_goals.specs.BestLeaf.{IsSafeLed, LeadsOnce}
use Rattle.code_goals.proofs.BestLeaf.{led_once, led_there, led_too_far}
use Rattle.code_goals.proofs.best_leaf.lead.Goals as goal

pub returns-in-Some-clause-leads : goal.returns-in-Some-clause-leads
returns-in-Some-clause-leads g c =
    let there = subst (LeadsOnce c.args.code.now c.loop.branch c.args.at c.args.areas.now c.args.order c.args.least c.args.values.now c.lead_once.new.branch) c.in-Some.is c.in_ok-next.ensures.leads in
    led_there c.args.code.now c.args.branch.now c.args.at c.args.areas.now c.args.order c.args.least c.args.values.now c.loop.branch c.lead_once.new.branch
    c.loop.counter c.loop.invariant.2 c.in-Some.next there.0

pub loop-preserved : goal.loop-preserved
loop-preserved g c =
    let led = subst (LeadsOnce c.args.code.now c.loop.branch c.args.at c.args.areas.now c.args.order c.args.least c.args.values.now c.lead_once.new.branch)
    c.in_default.is c.in_ok-next.ensures.leads in (
      subst (IsSafeLed c.args.code.now c.lead_once.new.branch c.args.at c.args.areas.now) c.in_default.is c.in_ok-next.ensures.safe,
      below_both c.args.branch.now c.loop.branch c.lead_once.new.branch c.loop.invariant.1 c.in_ok-next.ensures.same,
      led_once c.args.code.now c.args.branch.now c.args.at c.args.areas.now c.args.order c.args.least c.args.values.now c.loop.branch c.lead_once.new.branch c.loop.counter c.loop.invariant.2 led,
    )

pub returns-clause-leads : goal.returns-clause-leads
returns-clause-leads g c =
    led_too_far c.args.code.now c.args.branch.now c.args.at c.args.areas.now c.args.order c.args.least c.args.values.now c.loop.branch c.loop.counter
    (let far = c.loop-test.false in omega (arith, far)) c.loop.invariant.2
