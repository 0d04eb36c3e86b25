use Rattle.code_control.proofs.Threads.{back_safe}
use Rattle.code_control.proofs.Work.{back_less}
use Rattle.code_control.proofs.Stages.{fail_runs}
use Rattle.code_control.proofs.choices.fail_now.Goals as goal

pub returns-clause-safe : goal.returns-clause-safe
returns-clause-safe g c =
    back_safe c.args.code.now c.args.branch.now c.args.at c.args.areas.now c.requires.safe

pub returns-clause-runs : goal.returns-clause-runs
returns-clause-runs g c =
    fail_runs c.args.code.now c.args.branch.now c.args.at c.args.areas.now c.requires.holds

pub returns-clause-falls : goal.returns-clause-falls
returns-clause-falls g c =
    back_less c.args.code.now c.requires.safe.states c.requires.safe.verified c.args.at c.args.areas.now
