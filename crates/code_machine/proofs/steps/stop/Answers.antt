use Rattle.std.proofs.Common.{reverse}
use Rattle.code_machine.proofs.StageSteps.{call_takes, no_budget}
use Rattle.code_machine.proofs.steps.stop.Goals as goal

pub returns-clause-tells : goal.returns-clause-tells
returns-clause-tells g c =
    let r = c.args.run.now in
    no_budget c.args.code.now r.query c.args.branch.now r.areas (reverse r.labels.items) r.stage r.budget r.limit r.spent c.requires.machine c.args.at
    c.requires.stage c.args.instruction c.requires.holds (call_takes c.args.instruction c.requires.call) c.requires.none
