use Rattle.std.proofs.Common.{suc, ◌<◌, [], ◌∷◌, length, refl, ap, sym, ◌∙◌, subst}
use Rattle.fd_language.proofs.Lemmas.{first_member}
use Rattle.branch_state.specs.States.{IsSound, with_pair}
use Rattle.wam_code.specs.declared.instruction.Code.TheVariants as step
use Rattle.code_areas.specs.Areas.{Contents}
use Rattle.code_safety.specs.Safety.{IsSafe}
use Rattle.code_safety.specs.Choices.{point_of}
use Rattle.code_safety.specs.RemainingEvents.{SplitsAt}
use Rattle.code_safety.specs.Queries.{KeepsQuery}
use Rattle.code_safety.specs.Work.{work_at}
use Rattle.code_safety.proofs.Lemmas.{within_code}
use Rattle.code_control.proofs.Threads.{left_to}
use Rattle.code_control.proofs.CutSafety.{first_is, second_is, other_is, two, test_safe}
use Rattle.code_control.proofs.Work.{named_near, next_near, left_falls}
use Rattle.code_control.proofs.Stages.{enter_runs}
use Rattle.code_control.proofs.Queries.{next_query, named_query}
use Rattle.code_control.proofs.cuts.enter_test.Goals as goal

pub behind-requires : goal.behind-requires
behind-requires g c =
    within_code c.args.code.now c.args.at (step.EnterTest c.args.n c.args.m c.args.to) c.requires.holds

pub set_levels-requires : goal.set_levels-requires
set_levels-requires g c =
    record {
      first = (first_is c.args.code.now c.args.branch.now c.args.at c.args.areas.now c.requires.safe c.args.n c.args.m c.args.to c.requires.holds);
      second = other_is c.args.code.now c.args.branch.now c.args.at c.args.areas.now c.requires.safe c.args.n c.args.m c.args.to c.requires.holds;
    }

pub leave_choice-requires : goal.leave_choice-requires
leave_choice-requires g c =
    record { sound = c.requires.safe.sound }

pub returns-clause-safe : goal.returns-clause-safe
returns-clause-safe g c =
    left_to (λ s to a. IsSafe c.args.code.now s to 0 a) (with_pair c.args.branch.now) c.leave_choice.new.branch (suc c.args.at) c.behind.result
    (record c.args.areas.now {
      slots = (two c.args.code.now c.args.branch.now c.args.at c.args.areas.now c.requires.safe c.args.n c.args.m c.args.to
          c.requires.holds (length c.args.areas.now.points) (suc (length c.args.areas.now.points)));
      points = point_of (record c.args.areas.now {
        slots =
            (two c.args.code.now c.args.branch.now c.args.at c.args.areas.now c.requires.safe c.args.n c.args.m c.args.to c.requires.holds
            (length c.args.areas.now.points) (suc (length c.args.areas.now.points)));
      }) c.args.to ∷ c.args.areas.now.points;
    }) c.leave_choice.new.areas
    c.in_ok-leave_choice.ensures.pair c.behind.ensures
    (c.in_ok-leave_choice.ensures.point ∙ ap (λ (a : Contents). record a { points = point_of a c.args.to ∷ a.points }) c.in_ok-set_levels.ensures)
    (test_safe c.args.code.now c.args.branch.now c.args.at c.args.areas.now c.requires.safe c.args.n c.args.m c.args.to c.requires.holds
    (length c.args.areas.now.points) (suc (length c.args.areas.now.points))
    (subst IsSound c.in_ok-leave_choice.ensures.pair c.in_ok-leave_choice.ensures.sound))

pub returns-clause-runs : goal.returns-clause-runs
returns-clause-runs g c =
    left_to (λ s to a. SplitsAt c.args.code.now c.args.branch.now c.args.at c.args.areas.now s to a c.args.to) (with_pair c.args.branch.now)
    c.leave_choice.new.branch (suc c.args.at) c.behind.result
    (record c.args.areas.now {
      slots = (two c.args.code.now c.args.branch.now c.args.at c.args.areas.now c.requires.safe c.args.n c.args.m c.args.to
          c.requires.holds (length c.args.areas.now.points) (suc (length c.args.areas.now.points)));
      points = point_of (record c.args.areas.now {
        slots =
            (two c.args.code.now c.args.branch.now c.args.at c.args.areas.now c.requires.safe c.args.n c.args.m c.args.to c.requires.holds
            (length c.args.areas.now.points) (suc (length c.args.areas.now.points)));
      }) c.args.to ∷ c.args.areas.now.points;
    }) c.leave_choice.new.areas
    c.in_ok-leave_choice.ensures.pair c.behind.ensures
    (c.in_ok-leave_choice.ensures.point ∙ ap (λ (a : Contents). record a { points = point_of a c.args.to ∷ a.points }) c.in_ok-set_levels.ensures)
    (enter_runs c.args.code.now c.args.branch.now c.args.at c.args.areas.now c.requires.safe c.args.n c.args.m c.args.to c.requires.holds
    (first_is c.args.code.now c.args.branch.now c.args.at c.args.areas.now c.requires.safe c.args.n c.args.m c.args.to c.requires.holds)
    (second_is c.args.code.now c.args.branch.now c.args.at c.args.areas.now c.requires.safe c.args.n c.args.m c.args.to c.requires.holds
    (length c.args.areas.now.points) (suc (length c.args.areas.now.points))))

pub returns-clause-falls : goal.returns-clause-falls
returns-clause-falls g c =
    left_to (λ s to a. work_at c.args.code.now to a < work_at c.args.code.now c.args.at c.args.areas.now) (with_pair c.args.branch.now)
    c.leave_choice.new.branch (suc c.args.at) c.behind.result
    (record c.args.areas.now {
      slots = (two c.args.code.now c.args.branch.now c.args.at c.args.areas.now c.requires.safe c.args.n c.args.m c.args.to
          c.requires.holds (length c.args.areas.now.points) (suc (length c.args.areas.now.points)));
      points = point_of (record c.args.areas.now {
        slots =
            (two c.args.code.now c.args.branch.now c.args.at c.args.areas.now c.requires.safe c.args.n c.args.m c.args.to c.requires.holds
            (length c.args.areas.now.points) (suc (length c.args.areas.now.points)));
      }) c.args.to ∷ c.args.areas.now.points;
    }) c.leave_choice.new.areas
    c.in_ok-leave_choice.ensures.pair c.behind.ensures
    (c.in_ok-leave_choice.ensures.point ∙ ap (λ (a : Contents). record a { points = point_of a c.args.to ∷ a.points }) c.in_ok-set_levels.ensures)
    (left_falls c.args.code.now c.requires.safe.states c.requires.safe.verified c.args.at c.args.areas.now (suc c.args.at) c.args.to
    (next_near c.args.code.now c.requires.safe.states c.requires.safe.verified c.args.at c.args.areas.now (step.EnterTest c.args.n c.args.m c.args.to)
    c.requires.holds refl) (named_near c.args.code.now c.requires.safe.states c.requires.safe.verified c.args.at c.args.areas.now
    (step.EnterTest c.args.n c.args.m c.args.to) c.requires.holds c.args.to (first_member c.args.to [])))

pub returns-clause-query : goal.returns-clause-query
returns-clause-query g c =
    left_to (λ s to a. KeepsQuery c.args.code.now c.args.at c.args.areas.now to a) (with_pair c.args.branch.now) c.leave_choice.new.branch (suc c.args.at)
    c.behind.result (record c.args.areas.now {
      slots =
          (two c.args.code.now c.args.branch.now c.args.at c.args.areas.now c.requires.safe c.args.n c.args.m c.args.to c.requires.holds
          (length c.args.areas.now.points) (suc (length c.args.areas.now.points)));
      points = point_of (record c.args.areas.now {
        slots =
            (two c.args.code.now c.args.branch.now c.args.at c.args.areas.now c.requires.safe c.args.n c.args.m c.args.to c.requires.holds
            (length c.args.areas.now.points) (suc (length c.args.areas.now.points)));
      }) c.args.to ∷ c.args.areas.now.points;
    }) c.leave_choice.new.areas
    c.in_ok-leave_choice.ensures.pair c.behind.ensures
    (c.in_ok-leave_choice.ensures.point ∙ ap (λ (a : Contents). record a { points = point_of a c.args.to ∷ a.points }) c.in_ok-set_levels.ensures)
    (next_query c.args.code.now c.args.branch.now c.args.at c.args.areas.now c.requires.safe (step.EnterTest c.args.n c.args.m c.args.to) c.requires.holds refl)

pub returns-clause-other : goal.returns-clause-other
returns-clause-other g c =
    left_to (λ s to a. KeepsQuery c.args.code.now c.args.at c.args.areas.now c.args.to a) (with_pair c.args.branch.now) c.leave_choice.new.branch
    (suc c.args.at) c.behind.result (record c.args.areas.now {
      slots = (two c.args.code.now c.args.branch.now c.args.at c.args.areas.now c.requires.safe c.args.n c.args.m c.args.to c.requires.holds
          (length c.args.areas.now.points) (suc (length c.args.areas.now.points)));
      points = point_of (record c.args.areas.now {
        slots =
            (two c.args.code.now c.args.branch.now c.args.at c.args.areas.now c.requires.safe c.args.n c.args.m c.args.to c.requires.holds
            (length c.args.areas.now.points) (suc (length c.args.areas.now.points)));
      }) c.args.to ∷ c.args.areas.now.points;
    }) c.leave_choice.new.areas
    c.in_ok-leave_choice.ensures.pair c.behind.ensures
    (c.in_ok-leave_choice.ensures.point ∙ ap (λ (a : Contents). record a { points = point_of a c.args.to ∷ a.points }) c.in_ok-set_levels.ensures)
    (named_query c.args.code.now c.args.branch.now c.args.at c.args.areas.now c.requires.safe (step.EnterTest c.args.n c.args.m c.args.to) c.requires.holds c.args.to (first_member c.args.to []))

pub returns-clause-point : goal.returns-clause-point
returns-clause-point g c =
    ap (λ (a : Contents). a.points) c.in_ok-leave_choice.ensures.point
    ∙ ap (λ p. p ∷ c.set_levels.new.areas.points) (sym (ap (λ (a : Contents). point_of a c.args.to) c.in_ok-leave_choice.ensures.point))
    ∙ ap (λ (a : Contents). point_of c.leave_choice.new.areas c.args.to ∷ a.points) c.in_ok-set_levels.ensures
