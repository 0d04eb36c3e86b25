use Rattle.std.proofs.Common.{subst, sym, refl}
use Rattle.wam_code.specs.declared.instruction.Code.TheVariants.{GetConstant}
use Rattle.code_safety.specs.Safety.{IsSafeThen}
use Rattle.code_safety.specs.RepresentedBranch.{KeepsStanding}
use Rattle.code_safety.specs.Work.{LeadsOn}
use Rattle.code_safety.specs.declared.instruction_outcomes.Went.{Went}
use Rattle.code_safety.proofs.Lemmas.{within_code, get_constant_stands}
use Rattle.term_instructions.proofs.Steps.{led_by, get_constant_needs, get_constant_own, get_constant_safe}
use Rattle.term_instructions.proofs.gets.get_constant.Goals as goal
use Rattle.heap_cells.specs.declared.Cell.TheVariants as cell

pub register-argument-requires : goal.register-argument-requires
register-argument-requires g c = get_constant_needs c.args.code.now c.args.branch.now c.args.at c.args.areas.now c.requires.safe c.args.c c.args.a c.requires.holds

pub equate-requires-clause-sound : goal.equate-requires-clause-sound
equate-requires-clause-sound g c = c.requires.safe.sound

pub equate-requires-clause-own_a : goal.equate-requires-clause-own_a
equate-requires-clause-own_a g c = c.requires.safe.here.registers_own c.args.a c.register-argument.result c.register-argument.ensures

pub equate-requires-clause-own_b : goal.equate-requires-clause-own_b
equate-requires-clause-own_b g c = get_constant_own c.args.code.now c.args.branch.now c.args.at c.args.areas.now c.requires.safe c.args.c c.args.a c.requires.holds

pub next_if-requires : goal.next_if-requires
next_if-requires g c = within_code c.args.code.now c.args.at (GetConstant c.args.c c.args.a) c.requires.holds

pub returns-clause-safe : goal.returns-clause-safe
returns-clause-safe g c =
    subst (λ (w : Went). IsSafeThen c.args.code.now c.equate.new.branch c.args.areas.now w) (sym c.next_if.ensures)
    (get_constant_safe c.args.code.now c.args.branch.now c.args.at c.args.areas.now c.requires.safe c.args.c c.args.a c.requires.holds c.equate.new.branch
    c.register-argument.result (cell.Atom c.args.c) c.in_ok-equal.equal c.in_ok-equal.ensures.equates c.in_ok-equal.ensures.same)

pub returns-clause-stands : goal.returns-clause-stands
returns-clause-stands g c =
    subst (λ (w : Went). KeepsStanding c.args.code.now c.args.branch.now c.args.at c.args.areas.now c.equate.new.branch c.args.areas.now w) (sym c.next_if.ensures)
    (get_constant_stands c.args.code.now c.args.branch.now c.args.at c.args.areas.now c.requires.safe c.args.c c.args.a c.requires.holds
    c.register-argument.result c.register-argument.ensures c.equate.new.branch c.in_ok-equal.equal c.in_ok-equal.ensures.equates)

pub returns-clause-leads : goal.returns-clause-leads
returns-clause-leads g c =
    subst (λ (w : Went). LeadsOn c.args.code.now c.args.at w) (sym c.next_if.ensures)
    (led_by c.args.code.now c.args.branch.now c.args.at c.args.areas.now c.requires.safe (GetConstant c.args.c c.args.a) c.requires.holds refl c.in_ok-equal.equal)
