use Rattle.std.proofs.Common.{subst, sym, refl, arith}
use Rattle.fd_model.specs.declared.kinds.BuiltinKind.TheVariants as kind
use Rattle.wam_code.specs.declared.instruction.Code.TheVariants as step
use Rattle.code_safety.proofs.Lemmas.{within_code}
use Rattle.code_goals.specs.GoalOutcomes.{IsSafeNext, LeadsNext, SaysNothing, Takes}
use Rattle.code_goals.specs.declared.goal_outcomes.Next.{Next}
use Rattle.code_goals.proofs.BuiltinGoals.{next_leads, next_silent, unify_taken, equal_safe}
use Rattle.code_goals.proofs.GoalSafety.{arguments_there}
use Rattle.code_goals.proofs.builtins.take_unify.Goals as goal

pub register-left-requires : goal.register-left-requires
register-left-requires g c = arguments_there c.args.code.now c.args.branch.now c.args.at c.args.areas.now (step.Builtin kind.Unify) 2 c.requires.safe
    c.requires.holds (λ t. refl) 1 (omega arith) (omega arith)

pub register-right-requires : goal.register-right-requires
register-right-requires g c = arguments_there c.args.code.now c.args.branch.now c.args.at c.args.areas.now (step.Builtin kind.Unify) 2 c.requires.safe
    c.requires.holds (λ t. refl) 2 (omega arith) (omega arith)

pub equate-requires-clause-sound : goal.equate-requires-clause-sound
equate-requires-clause-sound g c = c.requires.safe.sound

pub equate-requires-clause-own_a : goal.equate-requires-clause-own_a
equate-requires-clause-own_a g c = c.requires.safe.here.registers_own 1 c.register-left.result c.register-left.ensures

pub equate-requires-clause-own_b : goal.equate-requires-clause-own_b
equate-requires-clause-own_b g c = c.requires.safe.here.registers_own 2 c.register-right.result c.register-right.ensures

pub next_if-requires : goal.next_if-requires
next_if-requires g c = within_code c.args.code.now c.args.at (step.Builtin kind.Unify) c.requires.holds

pub returns-clause-safe : goal.returns-clause-safe
returns-clause-safe g c =
    subst (λ (x : Next). IsSafeNext c.args.code.now c.equate.new.branch c.args.areas.now x) (sym c.next_if.ensures)
    (equal_safe c.args.code.now c.args.branch.now c.args.at c.args.areas.now c.requires.safe kind.Unify c.requires.holds c.register-left.result
    c.register-right.result c.equate.new.branch c.in_ok-equal.ensures.same c.in_ok-equal.equal c.in_ok-equal.ensures.equates)

pub returns-clause-takes : goal.returns-clause-takes
returns-clause-takes g c =
    subst (λ (x : Next). Takes c.args.code.now c.args.branch.now c.args.at c.args.areas.now c.equate.new.branch x) (sym c.next_if.ensures)
    (unify_taken c.args.code.now c.args.branch.now c.args.at c.args.areas.now c.requires.safe c.pool_of.ensures.valid c.requires.holds c.register-left.result
    c.register-right.result c.register-left.ensures c.register-right.ensures c.equate.new.branch c.in_ok-equal.ensures.same c.in_ok-equal.equal
    c.in_ok-equal.ensures.equates)

pub returns-clause-leads : goal.returns-clause-leads
returns-clause-leads g c = subst (LeadsNext c.args.at) (sym c.next_if.ensures) (next_leads c.args.at c.in_ok-equal.equal)

pub returns-clause-silent : goal.returns-clause-silent
returns-clause-silent g c = subst SaysNothing (sym c.next_if.ensures) (next_silent c.args.at c.in_ok-equal.equal)
