use Rattle.std.proofs.Common.{suc, ◌<◌, length, replicate, refl, ap}
use Rattle.wam_code.specs.declared.instruction.Code.TheVariants as step
use Rattle.code_areas.specs.Areas.{nothing_held, Contents}
use Rattle.code_safety.specs.Safety.{IsSafe}
use Rattle.code_safety.specs.RemainingEvents.{KeepsRunning}
use Rattle.code_safety.specs.Work.{work_at}
use Rattle.code_safety.proofs.Lemmas.{within_code}
use Rattle.code_control.proofs.Threads.{no_slots, allocate_safe, moved_to}
use Rattle.code_control.proofs.Work.{next_near, moved_falls}
use Rattle.code_control.proofs.Stages.{allocate_runs}
use Rattle.code_safety.specs.Queries.{KeepsQuery}
use Rattle.code_control.proofs.Queries.{next_query}
use Rattle.code_control.proofs.frames.allocate.Goals as goal

pub allocate-requires : goal.allocate-requires
allocate-requires g c =
    record { none = ap length (no_slots c.args.code.now c.args.branch.now c.args.at c.args.areas.now c.requires.safe c.args.n c.requires.holds) }

pub behind-requires : goal.behind-requires
behind-requires g c =
    within_code c.args.code.now c.args.at (step.Allocate c.args.n) c.requires.holds

pub returns-clause-safe : goal.returns-clause-safe
returns-clause-safe g c =
    moved_to (λ to a. IsSafe c.args.code.now c.args.branch.now to 0 a) (suc c.args.at) c.behind.result
    (record c.args.areas.now { slots = replicate c.args.n nothing_held }) c.allocate.new.self c.behind.ensures c.in_ok-allocate.ensures.slots
    (allocate_safe c.args.code.now c.args.branch.now c.args.at c.args.areas.now c.requires.safe c.args.n c.requires.holds)

pub returns-clause-runs : goal.returns-clause-runs
returns-clause-runs g c =
    moved_to (λ to a. KeepsRunning c.args.code.now c.args.branch.now c.args.at c.args.areas.now c.args.branch.now to a) (suc c.args.at) c.behind.result
    (record c.args.areas.now { slots = replicate c.args.n nothing_held }) c.allocate.new.self c.behind.ensures c.in_ok-allocate.ensures.slots
    (allocate_runs c.args.code.now c.args.branch.now c.args.at c.args.areas.now c.args.n c.requires.holds)

pub returns-clause-falls : goal.returns-clause-falls
returns-clause-falls g c =
    moved_to (λ to a. work_at c.args.code.now to a < work_at c.args.code.now c.args.at c.args.areas.now) (suc c.args.at) c.behind.result
    (record c.args.areas.now { slots = replicate c.args.n nothing_held }) c.allocate.new.self c.behind.ensures c.in_ok-allocate.ensures.slots
    (moved_falls c.args.code.now c.requires.safe.states c.requires.safe.verified c.args.at c.args.areas.now (suc c.args.at)
    (next_near c.args.code.now c.requires.safe.states c.requires.safe.verified c.args.at c.args.areas.now (step.Allocate c.args.n) c.requires.holds refl))

pub returns-clause-same : goal.returns-clause-same
returns-clause-same g c =
    record { returns = ap (λ (a : Contents). a.returns) c.in_ok-allocate.ensures.slots; points = ap (λ (a : Contents). a.points) c.in_ok-allocate.ensures.slots }

pub returns-clause-query : goal.returns-clause-query
returns-clause-query g c =
    moved_to (λ to a. KeepsQuery c.args.code.now c.args.at c.args.areas.now to a) (suc c.args.at) c.behind.result
    (record c.args.areas.now { slots = replicate c.args.n nothing_held }) c.allocate.new.self c.behind.ensures c.in_ok-allocate.ensures.slots
    (next_query c.args.code.now c.args.branch.now c.args.at c.args.areas.now c.requires.safe (step.Allocate c.args.n) c.requires.holds refl)
