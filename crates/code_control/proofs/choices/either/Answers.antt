use Rattle.std.proofs.Common.{suc, ◌<◌, [], ◌∷◌, refl, ap, subst}
use Rattle.fd_language.proofs.Lemmas.{first_member}
use Rattle.branch_state.specs.States.{IsSound, with_pair}
use Rattle.wam_code.specs.declared.instruction.Code.TheVariants as step
use Rattle.code_areas.specs.Areas.{Contents}
use Rattle.code_safety.specs.Safety.{IsSafe}
use Rattle.code_safety.specs.Choices.{point_of}
use Rattle.code_safety.specs.RemainingEvents.{SplitsAt}
use Rattle.code_safety.specs.Work.{work_at}
use Rattle.code_safety.proofs.Lemmas.{within_code}
use Rattle.code_control.proofs.Threads.{next_thread, named_thread, left_safe, left_to, moved_to}
use Rattle.code_control.proofs.Work.{named_near, next_near, left_falls}
use Rattle.code_control.proofs.Stages.{either_runs}
use Rattle.code_safety.specs.Queries.{KeepsQuery}
use Rattle.code_control.proofs.Queries.{next_query, named_query}
use Rattle.code_control.proofs.choices.either.Goals as goal

pub behind-requires : goal.behind-requires
behind-requires g c =
    within_code c.args.code.now c.args.at (step.Either c.args.to) c.requires.holds

pub leave_choice-requires : goal.leave_choice-requires
leave_choice-requires g c =
    record { sound = c.requires.safe.sound }

pub returns-clause-safe : goal.returns-clause-safe
returns-clause-safe g c =
    left_to (λ s to a. IsSafe c.args.code.now s to 0 a) (with_pair c.args.branch.now) c.leave_choice.new.branch (suc c.args.at) c.behind.result
    (record c.args.areas.now { points = point_of c.args.areas.now c.args.to ∷ c.args.areas.now.points }) c.leave_choice.new.areas
    c.in_ok-leave_choice.ensures.pair c.behind.ensures c.in_ok-leave_choice.ensures.point
    (left_safe c.args.code.now c.args.branch.now c.args.at c.args.areas.now c.requires.safe (suc c.args.at) c.args.to
    (next_thread c.args.code.now c.args.branch.now c.args.at c.args.areas.now c.requires.safe (step.Either c.args.to) c.requires.holds refl refl)
    (named_thread c.args.code.now c.args.branch.now c.args.at c.args.areas.now c.requires.safe (step.Either c.args.to) c.requires.holds refl c.args.to
    (first_member c.args.to [])) (subst IsSound c.in_ok-leave_choice.ensures.pair c.in_ok-leave_choice.ensures.sound))

pub returns-clause-runs : goal.returns-clause-runs
returns-clause-runs g c =
    left_to (λ s to a. SplitsAt c.args.code.now c.args.branch.now c.args.at c.args.areas.now s to a c.args.to) (with_pair c.args.branch.now)
    c.leave_choice.new.branch (suc c.args.at) c.behind.result
    (record c.args.areas.now { points = point_of c.args.areas.now c.args.to ∷ c.args.areas.now.points }) c.leave_choice.new.areas
    c.in_ok-leave_choice.ensures.pair c.behind.ensures c.in_ok-leave_choice.ensures.point
    (either_runs c.args.code.now c.args.branch.now c.args.at c.args.areas.now c.requires.safe.sound c.args.to c.requires.holds)

pub returns-clause-falls : goal.returns-clause-falls
returns-clause-falls g c =
    left_to (λ s to a. work_at c.args.code.now to a < work_at c.args.code.now c.args.at c.args.areas.now) (with_pair c.args.branch.now)
    c.leave_choice.new.branch (suc c.args.at) c.behind.result
    (record c.args.areas.now { points = point_of c.args.areas.now c.args.to ∷ c.args.areas.now.points }) c.leave_choice.new.areas
    c.in_ok-leave_choice.ensures.pair c.behind.ensures c.in_ok-leave_choice.ensures.point
    (left_falls c.args.code.now c.requires.safe.states c.requires.safe.verified c.args.at c.args.areas.now (suc c.args.at) c.args.to
    (next_near c.args.code.now c.requires.safe.states c.requires.safe.verified c.args.at c.args.areas.now (step.Either c.args.to) c.requires.holds refl)
    (named_near c.args.code.now c.requires.safe.states c.requires.safe.verified c.args.at c.args.areas.now (step.Either c.args.to) c.requires.holds
    c.args.to (first_member c.args.to [])))

pub returns-clause-point : goal.returns-clause-point
returns-clause-point g c =
    ap (λ (a : Contents). a.points) c.in_ok-leave_choice.ensures.point

pub returns-clause-query : goal.returns-clause-query
returns-clause-query g c =
    moved_to (λ to a. KeepsQuery c.args.code.now c.args.at c.args.areas.now to a) (suc c.args.at) c.behind.result
    (record c.args.areas.now { points = point_of c.args.areas.now c.args.to ∷ c.args.areas.now.points }) c.leave_choice.new.areas c.behind.ensures
    c.in_ok-leave_choice.ensures.point
    (next_query c.args.code.now c.args.branch.now c.args.at c.args.areas.now c.requires.safe (step.Either c.args.to) c.requires.holds refl)

pub returns-clause-other : goal.returns-clause-other
returns-clause-other g c =
    named_query c.args.code.now c.args.branch.now c.args.at c.args.areas.now c.requires.safe (step.Either c.args.to) c.requires.holds c.args.to (first_member c.args.to [])
