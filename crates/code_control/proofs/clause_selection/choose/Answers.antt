use Rattle.std.proofs.Common.{◌<◌, ◌∷◌, refl, subst}
use Rattle.branch_state.specs.States.{IsSound, with_pair}
use Rattle.code_safety.specs.Choices.{point_of}
use Rattle.code_safety.specs.Safety.{IsSafe}
use Rattle.code_safety.specs.Work.{work_at}
use Rattle.code_safety.specs.declared.instruction_outcomes.Went.TheVariants.{On}
use Rattle.code_control.specs.ClauseSelection.{Chooses}
use Rattle.code_control.specs.declared.clause_selection.Tried.TheVariants.{Both, Last, Other}
use Rattle.code_control.proofs.ChoiceSafety.{may_match, safe_at, later_within, place_safe, place_falls, both_places, last_place, chooses_none, chooses_last}
use Rattle.code_control.proofs.ChoiceSafety.{chooses_other, other_falls, chooses_alone, both_safe, both_falls, chooses_both}
use Rattle.code_control.proofs.Threads.{left_to}
use Rattle.code_control.proofs.clause_selection.choose.Goals as goal

pub returns-in_default-clause-chooses : goal.returns-in_default-clause-chooses
returns-in_default-clause-chooses g c = chooses_none c.args.code.now c.args.branch.now c.args.at c.args.areas.now c.requires.safe c.args.instruction
    c.requires.holds c.requires.choice c.in_default.ensures.out

pub tried_at-requires : goal.tried_at-requires
tried_at-requires g c = later_within c.args.code.now c.args.branch.now c.args.at c.args.areas.now c.requires.safe c.in-Some.first c.in-Some.ensures.later

pub next_choice-requires : goal.next_choice-requires
next_choice-requires g c = place_safe c.args.code.now c.args.branch.now c.args.at c.args.areas.now c.requires.safe c.args.instruction c.requires.holds
    c.requires.choice c.in-Some.first c.in-Some.ensures.later c.in-Some.ensures.out c.in-Both.other
    (both_places c.args.code.now c.args.branch.now c.args.at c.args.areas.now c.requires.safe c.args.instruction c.requires.holds c.requires.choice
    c.in-Some.first c.in-Some.ensures.later c.in-Some.ensures.out c.in-Both.to c.in-Both.other c.in-Both.ensures).1

pub returns-in_ok-leave_choice-in-Both-clause-safe : goal.returns-in_ok-leave_choice-in-Both-clause-safe
returns-in_ok-leave_choice-in-Both-clause-safe g c =
    left_to (λ s to a. IsSafe c.args.code.now s to 0 a) (with_pair c.args.branch.now) c.leave_choice.new.branch c.in-Both.to c.in-Both.to
    (record c.args.areas.now { points = point_of c.args.areas.now c.in-Some-next_choice.later ∷ c.args.areas.now.points }) c.leave_choice.new.areas
    c.in_ok-leave_choice-in-Both.ensures.pair refl c.in_ok-leave_choice-in-Both.ensures.point
    (both_safe c.args.code.now c.args.branch.now c.args.at c.args.areas.now c.requires.safe c.args.instruction c.requires.holds c.requires.choice
    c.in-Some.first c.in-Some.ensures.later c.in-Some.ensures.out c.in-Both.to c.in-Both.other c.in-Both.ensures c.in-Some-next_choice.later
    c.in-Some-next_choice.ensures.out c.in-Some-next_choice.ensures.later
    (subst IsSound c.in_ok-leave_choice-in-Both.ensures.pair c.in_ok-leave_choice-in-Both.ensures.sound))

pub returns-in_ok-leave_choice-in-Both-clause-chooses : goal.returns-in_ok-leave_choice-in-Both-clause-chooses
returns-in_ok-leave_choice-in-Both-clause-chooses g c =
    left_to (λ s to a. Chooses c.args.code.now c.args.branch.now c.args.at c.args.areas.now s a (On to)) (with_pair c.args.branch.now) c.leave_choice.new.branch
    c.in-Both.to c.in-Both.to (record c.args.areas.now { points = point_of c.args.areas.now c.in-Some-next_choice.later ∷ c.args.areas.now.points })
    c.leave_choice.new.areas c.in_ok-leave_choice-in-Both.ensures.pair refl c.in_ok-leave_choice-in-Both.ensures.point
    (chooses_both c.args.code.now c.args.branch.now c.args.at c.args.areas.now c.requires.safe c.args.instruction c.requires.holds c.requires.choice
    c.in-Some.first c.in-Some.ensures.later c.in-Some.ensures.out c.in-Both.to c.in-Both.other c.in-Both.ensures c.in-Some-next_choice.later
    c.in-Some-next_choice.ensures.out c.in-Some-next_choice.ensures.later c.in-Some-next_choice.ensures.may)

pub returns-in_ok-leave_choice-in-Both-clause-falls : goal.returns-in_ok-leave_choice-in-Both-clause-falls
returns-in_ok-leave_choice-in-Both-clause-falls g c =
    left_to (λ s to a. work_at c.args.code.now to a < work_at c.args.code.now c.args.at c.args.areas.now) (with_pair c.args.branch.now)
    c.leave_choice.new.branch c.in-Both.to c.in-Both.to
    (record c.args.areas.now { points = point_of c.args.areas.now c.in-Some-next_choice.later ∷ c.args.areas.now.points }) c.leave_choice.new.areas
    c.in_ok-leave_choice-in-Both.ensures.pair refl c.in_ok-leave_choice-in-Both.ensures.point
    (both_falls c.args.code.now c.args.branch.now c.args.at c.args.areas.now c.requires.safe c.args.instruction c.requires.holds c.requires.choice
    c.in-Some.first c.in-Some.ensures.later c.in-Some.ensures.out c.in-Both.to c.in-Both.other c.in-Both.ensures c.in-Some-next_choice.later
    c.in-Some-next_choice.ensures.out c.in-Some-next_choice.ensures.later)

pub returns-in_default-next_choice-clause-safe : goal.returns-in_default-next_choice-clause-safe
returns-in_default-next_choice-clause-safe g c = place_safe c.args.code.now c.args.branch.now c.args.at c.args.areas.now c.requires.safe c.args.instruction
    c.requires.holds c.requires.choice c.in-Some.first c.in-Some.ensures.later c.in-Some.ensures.out c.in-Both.to
    (both_places c.args.code.now c.args.branch.now c.args.at c.args.areas.now c.requires.safe c.args.instruction c.requires.holds c.requires.choice
    c.in-Some.first c.in-Some.ensures.later c.in-Some.ensures.out c.in-Both.to c.in-Both.other c.in-Both.ensures).0

pub returns-in_default-next_choice-clause-chooses : goal.returns-in_default-next_choice-clause-chooses
returns-in_default-next_choice-clause-chooses g c = chooses_alone c.args.code.now c.args.branch.now c.args.at c.args.areas.now c.requires.safe
    c.args.instruction c.requires.holds c.requires.choice c.in-Some.first c.in-Some.ensures.later c.in-Some.ensures.out c.in-Both.to c.in-Both.other
    c.in-Both.ensures c.in_default-next_choice.ensures.out

pub returns-in_default-next_choice-clause-falls : goal.returns-in_default-next_choice-clause-falls
returns-in_default-next_choice-clause-falls g c = place_falls c.args.code.now c.args.branch.now c.args.at c.args.areas.now c.requires.safe c.args.instruction
    c.requires.holds c.requires.choice c.in-Some.first c.in-Some.ensures.later c.in-Some.ensures.out c.in-Both.to
    (both_places c.args.code.now c.args.branch.now c.args.at c.args.areas.now c.requires.safe c.args.instruction c.requires.holds c.requires.choice
    c.in-Some.first c.in-Some.ensures.later c.in-Some.ensures.out c.in-Both.to c.in-Both.other c.in-Both.ensures).0

pub returns-in-Last-clause-safe : goal.returns-in-Last-clause-safe
returns-in-Last-clause-safe g c = place_safe c.args.code.now c.args.branch.now c.args.at c.args.areas.now c.requires.safe c.args.instruction c.requires.holds
    c.requires.choice c.in-Some.first c.in-Some.ensures.later c.in-Some.ensures.out c.in-Last.to
    (last_place c.args.code.now c.args.branch.now c.args.at c.args.areas.now c.requires.safe c.args.instruction c.requires.holds c.requires.choice
    c.in-Some.first c.in-Some.ensures.later c.in-Some.ensures.out c.in-Last.to c.in-Last.ensures)

pub returns-in-Last-clause-chooses : goal.returns-in-Last-clause-chooses
returns-in-Last-clause-chooses g c = chooses_last c.args.code.now c.args.branch.now c.args.at c.args.areas.now c.requires.safe c.args.instruction
    c.requires.holds c.requires.choice c.in-Some.first c.in-Some.ensures.later c.in-Some.ensures.out c.in-Last.to c.in-Last.ensures

pub returns-in-Last-clause-falls : goal.returns-in-Last-clause-falls
returns-in-Last-clause-falls g c = place_falls c.args.code.now c.args.branch.now c.args.at c.args.areas.now c.requires.safe c.args.instruction c.requires.holds
    c.requires.choice c.in-Some.first c.in-Some.ensures.later c.in-Some.ensures.out c.in-Last.to
    (last_place c.args.code.now c.args.branch.now c.args.at c.args.areas.now c.requires.safe c.args.instruction c.requires.holds c.requires.choice
    c.in-Some.first c.in-Some.ensures.later c.in-Some.ensures.out c.in-Last.to c.in-Last.ensures)

pub returns-in-Other-clause-safe : goal.returns-in-Other-clause-safe
returns-in-Other-clause-safe g c = safe_at c.args.code.now c.args.branch.now c.args.at c.in-Some.first c.args.areas.now c.requires.safe (c.in-Some.ensures.later.goes c.requires.safe)

pub returns-in-Other-clause-chooses : goal.returns-in-Other-clause-chooses
returns-in-Other-clause-chooses g c = chooses_other c.args.code.now c.args.branch.now c.args.at c.args.areas.now c.requires.safe c.args.instruction
    c.requires.holds c.requires.choice c.in-Some.first c.in-Some.ensures.later c.in-Some.ensures.out c.in-Other.ensures

pub returns-in-Other-clause-falls : goal.returns-in-Other-clause-falls
returns-in-Other-clause-falls g c = other_falls c.args.code.now c.args.branch.now c.args.at c.args.areas.now c.requires.safe c.args.instruction c.requires.holds
    c.requires.choice c.in-Some.first c.in-Some.ensures.later c.in-Some.ensures.out c.in-Other.ensures

pub returns-in_ok-leave_choice-in-Both-clause-fits : goal.returns-in_ok-leave_choice-in-Both-clause-fits
returns-in_ok-leave_choice-in-Both-clause-fits g c = λ new. may_match c.args.code.now c.args.branch.now c.in-Some.first c.args.areas.now
    (c.in-Some.ensures.may new) (Both c.in-Both.to c.in-Both.other) c.in-Both.ensures

pub returns-in_default-next_choice-clause-fits : goal.returns-in_default-next_choice-clause-fits
returns-in_default-next_choice-clause-fits g c = λ new. may_match c.args.code.now c.args.branch.now c.in-Some.first c.args.areas.now (c.in-Some.ensures.may new)
    (Both c.in-Both.to c.in-Both.other) c.in-Both.ensures

pub returns-in-Last-clause-fits : goal.returns-in-Last-clause-fits
returns-in-Last-clause-fits g c = λ new. may_match c.args.code.now c.args.branch.now c.in-Some.first c.args.areas.now (c.in-Some.ensures.may new) (Last c.in-Last.to) c.in-Last.ensures

pub returns-in-Other-clause-fits : goal.returns-in-Other-clause-fits
returns-in-Other-clause-fits g c = λ new. may_match c.args.code.now c.args.branch.now c.in-Some.first c.args.areas.now (c.in-Some.ensures.may new) Other c.in-Other.ensures
