use Rattle.std.proofs.Common.{subst, sym, refl}
use Rattle.wam_code.specs.declared.instruction.Code.TheVariants.{GetValue}
use Rattle.code_safety.specs.Safety.{IsSafeThen}
use Rattle.code_safety.specs.RepresentedBranch.{KeepsStanding}
use Rattle.code_safety.specs.Work.{LeadsOn}
use Rattle.code_safety.specs.declared.instruction_outcomes.Went.{Went}
use Rattle.code_safety.proofs.Lemmas.{within_code, get_value_stands}
use Rattle.term_instructions.proofs.Steps.{led_by, held_own, get_value_needs, get_value_safe}
use Rattle.term_instructions.proofs.gets.get_value.Goals as goal

pub register-argument-requires : goal.register-argument-requires
register-argument-requires g c = (get_value_needs c.args.code.now c.args.branch.now c.args.at c.args.areas.now c.requires.safe c.args.r c.args.a c.requires.holds).0

pub read-held-requires : goal.read-held-requires
read-held-requires g c = (get_value_needs c.args.code.now c.args.branch.now c.args.at c.args.areas.now c.requires.safe c.args.r c.args.a c.requires.holds).1

pub equate-requires-clause-sound : goal.equate-requires-clause-sound
equate-requires-clause-sound g c = c.requires.safe.sound

pub equate-requires-clause-own_a : goal.equate-requires-clause-own_a
equate-requires-clause-own_a g c = c.requires.safe.here.registers_own c.args.a c.register-argument.result c.register-argument.ensures

pub equate-requires-clause-own_b : goal.equate-requires-clause-own_b
equate-requires-clause-own_b g c = held_own c.args.branch.now c.args.areas.now c.args.r c.read-held.result c.requires.safe.here.registers_own c.requires.safe.here.slots_own c.read-held.ensures

pub next_if-requires : goal.next_if-requires
next_if-requires g c = within_code c.args.code.now c.args.at (GetValue c.args.r c.args.a) c.requires.holds

pub returns-clause-safe : goal.returns-clause-safe
returns-clause-safe g c =
    subst (λ (w : Went). IsSafeThen c.args.code.now c.equate.new.branch c.args.areas.now w) (sym c.next_if.ensures)
    (get_value_safe c.args.code.now c.args.branch.now c.args.at c.args.areas.now c.requires.safe c.args.r c.args.a c.requires.holds c.equate.new.branch
    c.register-argument.result c.read-held.result c.in_ok-equal.equal c.in_ok-equal.ensures.equates c.in_ok-equal.ensures.same)

pub returns-clause-stands : goal.returns-clause-stands
returns-clause-stands g c =
    subst (λ (w : Went). KeepsStanding c.args.code.now c.args.branch.now c.args.at c.args.areas.now c.equate.new.branch c.args.areas.now w) (sym c.next_if.ensures)
    (get_value_stands c.args.code.now c.args.branch.now c.args.at c.args.areas.now c.args.r c.args.a c.requires.holds c.register-argument.result
    c.read-held.result c.register-argument.ensures c.read-held.ensures c.equate.new.branch c.in_ok-equal.equal c.in_ok-equal.ensures.equates)

pub returns-clause-leads : goal.returns-clause-leads
returns-clause-leads g c =
    subst (λ (w : Went). LeadsOn c.args.code.now c.args.at w) (sym c.next_if.ensures)
    (led_by c.args.code.now c.args.branch.now c.args.at c.args.areas.now c.requires.safe (GetValue c.args.r c.args.a) c.requires.holds refl c.in_ok-equal.equal)
