use Rattle.std.proofs.Common.{sym, subst, arith}
use Rattle.code_control.specs.JumpTargets.{IsPastJump}
use Rattle.code_control.proofs.switches.switch_on_term.Goals as goal

pub returns-clause-runs : goal.returns-clause-runs
returns-clause-runs g c = λ t ls f n r. c.past_jump.ensures.runs t ls f n (c.arm_for-arm.ensures.runs t ls f n r)

pub returns-clause-falls : goal.returns-clause-falls
returns-clause-falls g c =
    let stays = c.past_jump.ensures.stays in
    let falls = c.arm_for-arm.ensures.falls in
    omega (arith, stays, falls)

pub returns-clause-query : goal.returns-clause-query
returns-clause-query g c = λ number ends. c.past_jump.ensures.query number (c.arm_for-arm.ensures.query number ends)

pub returns-clause-place : goal.returns-clause-place
returns-clause-place g c =
    let arm = c.arm_for-arm.ensures.place in
    record { cell = arm.cell; there = arm.there; shown = arm.shown; is_seen = arm.is_seen; so = subst (λ k. IsPastJump c.args.code.now k c.past_jump.result) (sym arm.so) c.past_jump.ensures.place }
