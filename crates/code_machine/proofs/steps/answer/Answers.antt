use Rattle.std.proofs.Common.{reverse}
use Rattle.code_machine.proofs.StageSteps.{answers_machine, answers_tells}
use Rattle.code_machine.proofs.steps.answer.Goals as goal

pub returns-clause-machine : goal.returns-clause-machine
returns-clause-machine g c =
    let r = c.args.run.now in
    answers_machine c.args.code.now r.query c.args.branch.now r.areas (reverse r.labels.items) r.stage r.budget r.limit r.spent c.requires.machine c.args.at
    c.requires.stage c.stage_behind-run.result c.stage_behind-run.ensures c.fewer-run.result c.fewer-run.ensures

pub returns-clause-tells : goal.returns-clause-tells
returns-clause-tells g c =
    let r = c.args.run.now in
    answers_tells c.args.code.now r.query c.args.branch.now r.areas (reverse r.labels.items) r.stage r.budget r.limit r.spent c.requires.machine c.args.at
    c.requires.stage c.stage_behind-run.result c.stage_behind-run.ensures c.fewer-run.result c.fewer-run.ensures c.requires.holds
