use Rattle.std.proofs.Common.{subst, sym}
use Rattle.wam_code.specs.declared.instruction.Code.TheVariants as step
use Rattle.code_safety.proofs.Lemmas.{within_code}
use Rattle.code_goals.specs.GoalOutcomes.{IsSafeNext, LeadsNext, SaysNothing, Takes}
use Rattle.code_goals.specs.declared.goal_outcomes.Next.{Next}
use Rattle.code_goals.proofs.BuiltinGoals.{next_leads, next_silent, found_fault, found_decided, found_cells, found_equal, decided_safe, equal_safe}
use Rattle.code_goals.proofs.builtins.act_on.Goals as goal

pub next_if-requires : goal.next_if-requires
next_if-requires g c = within_code c.args.code.now c.args.at (step.Builtin c.args.goal.0) c.requires.holds

pub returns-in-Fault-clause-takes : goal.returns-in-Fault-clause-takes
returns-in-Fault-clause-takes g c =
    found_fault c.args.code.now c.pool_of.ensures.valid c.args.branch.now c.args.at c.args.areas.now c.requires.safe c.args.goal.0 c.requires.found
    c.requires.holds c.args.goal.1 c.requires.comes c.in-Fault.fault c.in-Fault.is c.args.branch.now

pub returns-in-Decided-clause-safe : goal.returns-in-Decided-clause-safe
returns-in-Decided-clause-safe g c =
    subst (λ (x : Next). IsSafeNext c.args.code.now c.args.branch.now c.args.areas.now x) (sym c.next_if.ensures)
    (decided_safe c.args.code.now c.args.branch.now c.args.at c.args.areas.now c.requires.safe c.args.goal.0 c.requires.holds c.in-Decided.holds)

pub returns-in-Decided-clause-takes : goal.returns-in-Decided-clause-takes
returns-in-Decided-clause-takes g c =
    subst (λ (x : Next). Takes c.args.code.now c.args.branch.now c.args.at c.args.areas.now c.args.branch.now x) (sym c.next_if.ensures)
    (found_decided c.args.code.now c.pool_of.ensures.valid c.args.branch.now c.args.at c.args.areas.now c.requires.safe c.args.goal.0 c.requires.found
    c.requires.holds c.args.goal.1 c.requires.comes c.in-Decided.holds c.in-Decided.is)

pub equate-requires-clause-sound : goal.equate-requires-clause-sound
equate-requires-clause-sound g c = c.requires.safe.sound

pub equate-requires-clause-own_a : goal.equate-requires-clause-own_a
equate-requires-clause-own_a g c =
    (found_cells c.args.code.now c.pool_of.ensures.valid c.args.branch.now c.args.at c.args.areas.now c.requires.safe c.args.goal.0 c.requires.found
    c.requires.holds c.args.goal.1 c.requires.comes c.in-Equal.left c.in-Equal.right c.in-Equal.is).0

pub equate-requires-clause-own_b : goal.equate-requires-clause-own_b
equate-requires-clause-own_b g c =
    (found_cells c.args.code.now c.pool_of.ensures.valid c.args.branch.now c.args.at c.args.areas.now c.requires.safe c.args.goal.0 c.requires.found
    c.requires.holds c.args.goal.1 c.requires.comes c.in-Equal.left c.in-Equal.right c.in-Equal.is).1

pub returns-in_ok-equal-in-Equal-clause-safe : goal.returns-in_ok-equal-in-Equal-clause-safe
returns-in_ok-equal-in-Equal-clause-safe g c =
    subst (λ (x : Next). IsSafeNext c.args.code.now c.equate.new.branch c.args.areas.now x) (sym c.next_if-in-Equal.ensures)
    (equal_safe c.args.code.now c.args.branch.now c.args.at c.args.areas.now c.requires.safe c.args.goal.0 c.requires.holds c.in-Equal.left c.in-Equal.right
    c.equate.new.branch c.in_ok-equal-in-Equal.ensures.same c.in_ok-equal-in-Equal.equal c.in_ok-equal-in-Equal.ensures.equates)

pub returns-in_ok-equal-in-Equal-clause-takes : goal.returns-in_ok-equal-in-Equal-clause-takes
returns-in_ok-equal-in-Equal-clause-takes g c =
    subst (λ (x : Next). Takes c.args.code.now c.args.branch.now c.args.at c.args.areas.now c.equate.new.branch x) (sym c.next_if-in-Equal.ensures)
    (found_equal c.args.code.now c.pool_of.ensures.valid c.args.branch.now c.args.at c.args.areas.now c.requires.safe c.args.goal.0 c.requires.found
    c.requires.holds c.args.goal.1 c.requires.comes c.in-Equal.left c.in-Equal.right c.in-Equal.is c.equate.new.branch c.in_ok-equal-in-Equal.ensures.same
    c.in_ok-equal-in-Equal.equal c.in_ok-equal-in-Equal.ensures.equates)

pub returns-in-Decided-clause-leads : goal.returns-in-Decided-clause-leads
returns-in-Decided-clause-leads g c = subst (LeadsNext c.args.at) (sym c.next_if.ensures) (next_leads c.args.at c.in-Decided.holds)

pub returns-in_ok-equal-in-Equal-clause-leads : goal.returns-in_ok-equal-in-Equal-clause-leads
returns-in_ok-equal-in-Equal-clause-leads g c = subst (LeadsNext c.args.at) (sym c.next_if-in-Equal.ensures) (next_leads c.args.at c.in_ok-equal-in-Equal.equal)

pub returns-in-Decided-clause-silent : goal.returns-in-Decided-clause-silent
returns-in-Decided-clause-silent g c = subst SaysNothing (sym c.next_if.ensures) (next_silent c.args.at c.in-Decided.holds)

pub returns-in_ok-equal-in-Equal-clause-silent : goal.returns-in_ok-equal-in-Equal-clause-silent
returns-in_ok-equal-in-Equal-clause-silent g c = subst SaysNothing (sym c.next_if-in-Equal.ensures) (next_silent c.args.at c.in_ok-equal-in-Equal.equal)
