use Rattle.std.proofs.Common.{reverse}
use Rattle.code_machine.proofs.StageSteps.{returns_machine, returns_quiet}
use Rattle.code_machine.proofs.silent_steps.resume.Goals as goal

pub returns-clause-machine : goal.returns-clause-machine
returns-clause-machine g c =
    let r = c.args.run.now in
    let n = c.come_back.new in
    returns_machine c.args.code.now r.query c.args.branch.now r.areas (reverse r.labels.items) r.stage r.budget r.limit r.spent c.requires.machine
    c.requires.stage n.branch n.areas (reverse n.labels.items) c.in_ok-went.went c.in_ok-went.ensures c.stage_of-run.result c.stage_of-run.ensures

pub returns-clause-quiet : goal.returns-clause-quiet
returns-clause-quiet g c =
    let r = c.args.run.now in
    let n = c.come_back.new in
    returns_quiet c.args.code.now r.query c.args.branch.now r.areas (reverse r.labels.items) r.stage r.budget r.limit r.spent c.requires.machine
    c.requires.stage n.branch n.areas (reverse n.labels.items) c.in_ok-went.went c.in_ok-went.ensures c.stage_of-run.result c.stage_of-run.ensures
