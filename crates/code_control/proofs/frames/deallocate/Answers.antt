use Rattle.std.proofs.Common.{suc, ◌<◌, [], refl, ap}
use Rattle.wam_code.specs.declared.instruction.Code.TheVariants as step
use Rattle.code_areas.specs.Areas.{Contents}
use Rattle.code_safety.specs.Safety.{IsSafe}
use Rattle.code_safety.specs.RemainingEvents.{KeepsRunning}
use Rattle.code_safety.specs.Work.{work_at}
use Rattle.code_safety.proofs.Lemmas.{within_code}
use Rattle.code_control.proofs.Threads.{deallocate_safe, moved_to}
use Rattle.code_control.proofs.Work.{next_near, moved_falls}
use Rattle.code_control.proofs.Stages.{deallocate_runs}
use Rattle.code_safety.specs.Queries.{KeepsQuery}
use Rattle.code_control.proofs.Queries.{next_query}
use Rattle.code_control.proofs.frames.deallocate.Goals as goal

pub behind-requires : goal.behind-requires
behind-requires g c =
    within_code c.args.code.now c.args.at step.Deallocate c.requires.holds

pub returns-clause-safe : goal.returns-clause-safe
returns-clause-safe g c =
    moved_to (λ to a. IsSafe c.args.code.now c.args.branch.now to 0 a) (suc c.args.at) c.behind.result (record c.args.areas.now { slots = [] })
    c.deallocate.new.self c.behind.ensures c.deallocate.ensures
    (deallocate_safe c.args.code.now c.args.branch.now c.args.at c.args.areas.now c.requires.safe c.requires.holds)

pub returns-clause-runs : goal.returns-clause-runs
returns-clause-runs g c =
    moved_to (λ to a. KeepsRunning c.args.code.now c.args.branch.now c.args.at c.args.areas.now c.args.branch.now to a) (suc c.args.at) c.behind.result
    (record c.args.areas.now { slots = [] }) c.deallocate.new.self c.behind.ensures c.deallocate.ensures
    (deallocate_runs c.args.code.now c.args.branch.now c.args.at c.args.areas.now c.requires.holds)

pub returns-clause-falls : goal.returns-clause-falls
returns-clause-falls g c =
    moved_to (λ to a. work_at c.args.code.now to a < work_at c.args.code.now c.args.at c.args.areas.now) (suc c.args.at) c.behind.result
    (record c.args.areas.now { slots = [] }) c.deallocate.new.self c.behind.ensures c.deallocate.ensures
    (moved_falls c.args.code.now c.requires.safe.states c.requires.safe.verified c.args.at c.args.areas.now (suc c.args.at)
    (next_near c.args.code.now c.requires.safe.states c.requires.safe.verified c.args.at c.args.areas.now step.Deallocate c.requires.holds refl))

pub returns-clause-same : goal.returns-clause-same
returns-clause-same g c =
    record { returns = ap (λ (a : Contents). a.returns) c.deallocate.ensures; points = ap (λ (a : Contents). a.points) c.deallocate.ensures }

pub returns-clause-query : goal.returns-clause-query
returns-clause-query g c =
    moved_to (λ to a. KeepsQuery c.args.code.now c.args.at c.args.areas.now to a) (suc c.args.at) c.behind.result (record c.args.areas.now { slots = [] })
    c.deallocate.new.self c.behind.ensures c.deallocate.ensures
    (next_query c.args.code.now c.args.branch.now c.args.at c.args.areas.now c.requires.safe step.Deallocate c.requires.holds refl)
