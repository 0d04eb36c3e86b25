use Rattle.std.proofs.Common.{reverse}
use Rattle.code_machine.proofs.StageSteps.{nothing_left}
use Rattle.code_machine.proofs.steps.end.Goals as goal

pub returns-clause-tells : goal.returns-clause-tells
returns-clause-tells g c =
    let r = c.args.run.now in
    nothing_left c.args.code.now r.query c.args.branch.now r.areas (reverse r.labels.items) r.stage r.budget r.limit r.spent c.requires.machine c.requires.stage c.requires.none
