use Rattle.std.proofs.Common.{suc, ◌-◌, ◌<◌, slice_set, refl, ap, ◌∙◌}
use Rattle.wam_code.specs.declared.instruction.Code.TheVariants as step
use Rattle.code_areas.specs.Areas.{level, Contents}
use Rattle.code_safety.specs.Safety.{IsSafe}
use Rattle.code_safety.specs.RemainingEvents.{KeepsRunning}
use Rattle.code_safety.specs.Work.{work_at}
use Rattle.code_safety.specs.Queries.{KeepsQuery}
use Rattle.code_safety.proofs.Lemmas.{within_code, leveled}
use Rattle.code_control.proofs.Threads.{moved_to}
use Rattle.code_control.proofs.CutSafety.{level_is, level_safe}
use Rattle.code_control.proofs.Work.{next_near, moved_falls}
use Rattle.code_control.proofs.Stages.{level_runs}
use Rattle.code_control.proofs.Queries.{next_query}
use Rattle.code_control.proofs.cuts.level.Goals as goal

pub behind-requires : goal.behind-requires
behind-requires g c =
    within_code c.args.code.now c.args.at (step.Level c.args.n) c.requires.holds

pub overflow_sub-n : goal.overflow_sub-n
overflow_sub-n g c =
    (level_is c.args.code.now c.args.branch.now c.args.at c.args.areas.now c.requires.safe (step.Level c.args.n) c.requires.holds c.args.n refl).some

pub set_level-requires : goal.set_level-requires
set_level-requires g c =
    (level_is c.args.code.now c.args.branch.now c.args.at c.args.areas.now c.requires.safe (step.Level c.args.n) c.requires.holds c.args.n refl).within

pub returns-clause-safe : goal.returns-clause-safe
returns-clause-safe g c =
    moved_to (λ to a. IsSafe c.args.code.now c.args.branch.now to 0 a) (suc c.args.at) c.behind.result
    (record c.args.areas.now {
      slots = leveled c.args.areas.now.slots c.args.n (c.args.areas.now.noted)
          (level_is c.args.code.now c.args.branch.now c.args.at c.args.areas.now c.requires.safe (step.Level c.args.n) c.requires.holds c.args.n refl);
    })
    c.set_level.new.self c.behind.ensures (c.set_level.ensures
    ∙ ap (λ k. record c.args.areas.now { slots = slice_set c.args.areas.now.slots (c.args.n - 1) (level k) }) c.noted.ensures)
    (level_safe c.args.code.now c.args.branch.now c.args.at c.args.areas.now c.requires.safe (step.Level c.args.n) c.requires.holds c.args.n refl refl (c.args.areas.now.noted))

pub returns-clause-runs : goal.returns-clause-runs
returns-clause-runs g c =
    moved_to (λ to a. KeepsRunning c.args.code.now c.args.branch.now c.args.at c.args.areas.now c.args.branch.now to a) (suc c.args.at) c.behind.result
    (record c.args.areas.now {
      slots = leveled c.args.areas.now.slots c.args.n (c.args.areas.now.noted)
          (level_is c.args.code.now c.args.branch.now c.args.at c.args.areas.now c.requires.safe (step.Level c.args.n) c.requires.holds c.args.n refl);
    })
    c.set_level.new.self c.behind.ensures (c.set_level.ensures
    ∙ ap (λ k. record c.args.areas.now { slots = slice_set c.args.areas.now.slots (c.args.n - 1) (level k) }) c.noted.ensures)
    (level_runs c.args.code.now c.args.branch.now c.args.at c.args.areas.now c.args.n c.requires.holds
    (level_is c.args.code.now c.args.branch.now c.args.at c.args.areas.now c.requires.safe (step.Level c.args.n) c.requires.holds c.args.n refl))

pub returns-clause-falls : goal.returns-clause-falls
returns-clause-falls g c =
    moved_to (λ to a. work_at c.args.code.now to a < work_at c.args.code.now c.args.at c.args.areas.now) (suc c.args.at) c.behind.result
    (record c.args.areas.now {
      slots = leveled c.args.areas.now.slots c.args.n (c.args.areas.now.noted)
          (level_is c.args.code.now c.args.branch.now c.args.at c.args.areas.now c.requires.safe (step.Level c.args.n) c.requires.holds c.args.n refl);
    })
    c.set_level.new.self c.behind.ensures (c.set_level.ensures
    ∙ ap (λ k. record c.args.areas.now { slots = slice_set c.args.areas.now.slots (c.args.n - 1) (level k) }) c.noted.ensures)
    (moved_falls c.args.code.now c.requires.safe.states c.requires.safe.verified c.args.at c.args.areas.now (suc c.args.at)
    (next_near c.args.code.now c.requires.safe.states c.requires.safe.verified c.args.at c.args.areas.now (step.Level c.args.n) c.requires.holds refl))

pub returns-clause-query : goal.returns-clause-query
returns-clause-query g c =
    moved_to (λ to a. KeepsQuery c.args.code.now c.args.at c.args.areas.now to a) (suc c.args.at) c.behind.result
    (record c.args.areas.now {
      slots = leveled c.args.areas.now.slots c.args.n (c.args.areas.now.noted)
          (level_is c.args.code.now c.args.branch.now c.args.at c.args.areas.now c.requires.safe (step.Level c.args.n) c.requires.holds c.args.n refl);
    })
    c.set_level.new.self c.behind.ensures (c.set_level.ensures
    ∙ ap (λ k. record c.args.areas.now { slots = slice_set c.args.areas.now.slots (c.args.n - 1) (level k) }) c.noted.ensures)
    (next_query c.args.code.now c.args.branch.now c.args.at c.args.areas.now c.requires.safe (step.Level c.args.n) c.requires.holds refl)

pub returns-clause-same : goal.returns-clause-same
returns-clause-same g c =
    record { returns = ap (λ (a : Contents). a.returns) c.set_level.ensures; points = ap (λ (a : Contents). a.points) c.set_level.ensures }
