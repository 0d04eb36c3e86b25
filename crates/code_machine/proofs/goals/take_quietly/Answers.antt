use Rattle.std.proofs.Common.{reverse}
use Rattle.wam_code.specs.declared.instruction.Code.TheVariants as step
use Rattle.code_safety.proofs.Lemmas.{next_inside}
use Rattle.code_machine.proofs.GoalSteps.{goal_goes, goals_spend}
use Rattle.code_machine.proofs.goals.take_quietly.Goals as goal

pub returns-clause-spends : goal.returns-clause-spends
returns-clause-spends g c =
    let e = c.take_silent.ensures in
    goals_spend c.args.code.now c.args.branch.now c.args.at c.args.areas.now (reverse c.args.labels.now.items) c.requires.labels
    (next_inside c.args.code.now c.args.branch.now c.args.at 0 c.args.areas.now c.requires.safe (step.Builtin c.args.kind) c.requires.holds (goal_goes (step.Builtin c.args.kind) tt))
    c.take_silent.new.branch c.take_silent.result e.safe e.takes e.leads e.same
