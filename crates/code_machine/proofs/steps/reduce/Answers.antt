use Rattle.std.proofs.Common.{reverse}
use Rattle.code_machine.proofs.MachineRuns.{needed_goal}
use Rattle.code_machine.proofs.StageSteps.{goal_takes, no_budget, spends_machine, spends_step}
use Rattle.code_machine.proofs.steps.reduce.Goals as goal

pub returns-then-run-eq0-clause-step : goal.returns-then-run-eq0-clause-step
returns-then-run-eq0-clause-step g c =
    let r = c.args.run.now in
    no_budget c.args.code.now r.query c.args.branch.now r.areas (reverse r.labels.items) r.stage r.budget r.limit r.spent c.requires.machine c.args.at
    c.requires.stage c.args.instruction c.requires.holds (goal_takes c.args.instruction c.requires.goal) c.if-run-eq0.true

pub returns-clause-machine : goal.returns-clause-machine
returns-clause-machine g c =
    let r = c.args.run.now in
    let n = c.take_goal.new in
    spends_machine c.args.code.now r.query c.args.branch.now r.areas (reverse r.labels.items) r.stage r.budget r.limit r.spent c.requires.machine c.args.at
    c.requires.stage n.branch n.areas c.outcome-stage.result.0 c.if-run-eq0.false (reverse n.labels.items) c.in_ok-next.next c.in_ok-next.ensures
    (needed_goal c.args.code.now c.in_ok-next.next (c.args.at, c.args.instruction, c.requires.holds, c.requires.goal)) c.outcome-stage.ensures.stage

pub returns-clause-step : goal.returns-clause-step
returns-clause-step g c =
    let r = c.args.run.now in
    let n = c.take_goal.new in
    spends_step c.args.code.now r.query c.args.branch.now r.areas (reverse r.labels.items) r.stage r.budget r.limit r.spent c.requires.machine c.args.at
    c.requires.stage n.branch n.areas c.outcome-stage.result.0 c.if-run-eq0.false (reverse n.labels.items) c.in_ok-next.next c.in_ok-next.ensures
    (needed_goal c.args.code.now c.in_ok-next.next (c.args.at, c.args.instruction, c.requires.holds, c.requires.goal)) c.outcome-stage.ensures.stage
    c.outcome-stage.result.1 c.outcome-stage.ensures.saying
