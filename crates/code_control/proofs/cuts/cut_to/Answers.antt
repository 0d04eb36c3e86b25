use Rattle.std.proofs.Common.{suc, ◌-◌, ◌<◌, length, drop, refl, ap, ◌∙◌, subst, arith}
use Rattle.std.proofs.lemmas.List.{length-drop}
use Rattle.branch_state.specs.States.{IsSound, without_pairs}
use Rattle.wam_code.specs.declared.instruction.Code.TheVariants as step
use Rattle.code_areas.specs.Areas.{Contents}
use Rattle.code_safety.specs.Safety.{IsSafe}
use Rattle.code_safety.specs.RemainingEvents.{CutsAt}
use Rattle.code_safety.specs.Queries.{KeepsQuery}
use Rattle.code_safety.specs.Work.{work_at}
use Rattle.code_safety.proofs.Lemmas.{level_read, within_code}
use Rattle.code_control.proofs.Threads.{moved_to, left_to}
use Rattle.code_control.proofs.CutSafety.{kept_level, behind_cut, dropped_safe, can_drop, drop_counted}
use Rattle.code_control.proofs.Work.{next_near, cut_falls}
use Rattle.code_control.proofs.Stages.{cut_runs}
use Rattle.code_control.proofs.Queries.{next_query}
use Rattle.code_control.proofs.cuts.cut_to.Goals as goal

pub level-kept-requires : goal.level-kept-requires
level-kept-requires g c =
    (kept_level c.args.code.now c.args.branch.now c.args.at c.args.areas.now c.requires.safe c.args.n c.requires.holds).1

pub overflow_sub-n : goal.overflow_sub-n
overflow_sub-n g c =
    (kept_level c.args.code.now c.args.branch.now c.args.at c.args.areas.now c.requires.safe c.args.n c.requires.holds).0

pub behind-requires : goal.behind-requires
behind-requires g c =
    within_code c.args.code.now c.args.at (step.CutTo c.args.n) c.requires.holds

pub drop_above-requires : goal.drop_above-requires
drop_above-requires g c =
    record { sound = c.requires.safe.sound; marked = can_drop c.args.code.now c.args.branch.now c.args.at c.args.areas.now c.requires.safe (length c.args.areas.now.points) (omega arith) }

pub returns-clause-safe : goal.returns-clause-safe
returns-clause-safe g c =
    left_to (λ s to a. IsSafe c.args.code.now s to 0 a) (without_pairs c.args.branch.now (length c.args.areas.now.points - c.level-kept.result))
    c.drop_above.new.branch (suc c.args.at) c.behind.result
    (record c.args.areas.now { points = drop (length c.args.areas.now.points - c.level-kept.result) c.args.areas.now.points }) c.drop_above.new.areas
    c.drop_above.ensures.pairs c.behind.ensures c.drop_above.ensures.points
    (dropped_safe c.args.code.now c.args.branch.now (suc c.args.at) c.args.areas.now
    (behind_cut c.args.code.now c.args.branch.now c.args.at c.args.areas.now c.requires.safe c.args.n c.requires.holds)
    (length c.args.areas.now.points - c.level-kept.result) (omega arith) (subst IsSound c.drop_above.ensures.pairs c.drop_above.ensures.sound))

pub returns-clause-runs : goal.returns-clause-runs
returns-clause-runs g c =
    left_to (λ s to a. CutsAt c.args.code.now c.args.branch.now c.args.at c.args.areas.now s to a)
    (without_pairs c.args.branch.now (length c.args.areas.now.points - c.level-kept.result)) c.drop_above.new.branch (suc c.args.at) c.behind.result
    (record c.args.areas.now { points = drop (length c.args.areas.now.points - c.level-kept.result) c.args.areas.now.points }) c.drop_above.new.areas
    c.drop_above.ensures.pairs c.behind.ensures c.drop_above.ensures.points
    (cut_runs c.args.code.now c.args.branch.now c.args.at c.args.areas.now c.requires.safe c.args.n c.level-kept.result c.requires.holds
    (level_read c.args.areas.now.slots c.args.n c.level-kept.result
    (kept_level c.args.code.now c.args.branch.now c.args.at c.args.areas.now c.requires.safe c.args.n c.requires.holds).0 c.level-kept.ensures))

pub returns-clause-falls : goal.returns-clause-falls
returns-clause-falls g c =
    moved_to (λ to a. work_at c.args.code.now to a < work_at c.args.code.now c.args.at c.args.areas.now) (suc c.args.at) c.behind.result
    (record c.args.areas.now { points = drop (length c.args.areas.now.points - c.level-kept.result) c.args.areas.now.points }) c.drop_above.new.areas
    c.behind.ensures c.drop_above.ensures.points
    (cut_falls c.args.code.now c.requires.safe.states c.requires.safe.verified c.args.at c.args.areas.now (suc c.args.at)
    (length c.args.areas.now.points - c.level-kept.result)
    (next_near c.args.code.now c.requires.safe.states c.requires.safe.verified c.args.at c.args.areas.now (step.CutTo c.args.n) c.requires.holds refl))

pub returns-clause-query : goal.returns-clause-query
returns-clause-query g c =
    moved_to (λ to a. KeepsQuery c.args.code.now c.args.at c.args.areas.now to a) (suc c.args.at) c.behind.result
    (record c.args.areas.now { points = drop (length c.args.areas.now.points - c.level-kept.result) c.args.areas.now.points }) c.drop_above.new.areas
    c.behind.ensures c.drop_above.ensures.points
    (next_query c.args.code.now c.args.branch.now c.args.at c.args.areas.now c.requires.safe (step.CutTo c.args.n) c.requires.holds refl)

pub returns-clause-pairs : goal.returns-clause-pairs
returns-clause-pairs g c =
    c.drop_above.ensures.pairs
    ∙ ap (without_pairs c.args.branch.now) (drop_counted (length c.args.areas.now.points) c.level-kept.result (length c.drop_above.new.areas.points)
    (ap (λ (a : Contents). length a.points) c.drop_above.ensures.points
    ∙ length-drop (length c.args.areas.now.points - c.level-kept.result) c.args.areas.now.points))

pub returns-clause-points : goal.returns-clause-points
returns-clause-points g c =
    ap (λ (a : Contents). a.points) c.drop_above.ensures.points
    ∙ ap (λ n. drop n c.args.areas.now.points) (drop_counted (length c.args.areas.now.points) c.level-kept.result (length c.drop_above.new.areas.points)
    (ap (λ (a : Contents). length a.points) c.drop_above.ensures.points
    ∙ length-drop (length c.args.areas.now.points - c.level-kept.result) c.args.areas.now.points))
