use Rattle.std.proofs.Common.{[], refl}
use Rattle.fd_language.proofs.Lemmas.{first_member}
use Rattle.wam_code.specs.declared.instruction.Code.TheVariants as step
use Rattle.code_control.proofs.Threads.{named_thread, moved_safe}
use Rattle.code_control.proofs.Work.{named_near, moved_falls}
use Rattle.code_control.proofs.Stages.{jump_runs}
use Rattle.code_control.proofs.Queries.{named_query}
use Rattle.code_control.proofs.choices.jump.Goals as goal

pub returns-clause-safe : goal.returns-clause-safe
returns-clause-safe g c =
    moved_safe c.args.code.now c.args.branch.now c.args.at c.args.areas.now c.requires.safe c.args.to
    (named_thread c.args.code.now c.args.branch.now c.args.at c.args.areas.now c.requires.safe (step.Jump c.args.to) c.requires.holds refl c.args.to
    (first_member c.args.to []))

pub returns-clause-runs : goal.returns-clause-runs
returns-clause-runs g c =
    jump_runs c.args.code.now c.args.branch.now c.args.at c.args.areas.now c.args.to c.requires.holds

pub returns-clause-falls : goal.returns-clause-falls
returns-clause-falls g c =
    moved_falls c.args.code.now c.requires.safe.states c.requires.safe.verified c.args.at c.args.areas.now c.args.to
    (named_near c.args.code.now c.requires.safe.states c.requires.safe.verified c.args.at c.args.areas.now (step.Jump c.args.to) c.requires.holds c.args.to
    (first_member c.args.to []))

pub returns-clause-query : goal.returns-clause-query
returns-clause-query g c =
    named_query c.args.code.now c.args.branch.now c.args.at c.args.areas.now c.requires.safe (step.Jump c.args.to) c.requires.holds c.args.to (first_member c.args.to [])
