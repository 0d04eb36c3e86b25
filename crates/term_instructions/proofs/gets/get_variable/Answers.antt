use Rattle.code_safety.specs.Safety.{IsSafeThen}
use Rattle.code_safety.specs.RepresentedBranch.{KeepsStanding}
use Rattle.code_safety.specs.declared.instruction_outcomes.Went.TheVariants.{On}
use Rattle.std.proofs.Common.{subst, sym, refl}
use Rattle.wam_code.specs.declared.instruction.Code.TheVariants.{GetVariable}
use Rattle.code_safety.proofs.Lemmas.{within_code, get_variable_stands}
use Rattle.term_instructions.proofs.Steps.{led_on, get_variable_needs, get_variable_safe}
use Rattle.term_instructions.proofs.gets.get_variable.Goals as goal

pub register-cell-requires : goal.register-cell-requires
register-cell-requires g c = (get_variable_needs c.args.code.now c.args.branch.now c.args.at c.args.areas.now c.requires.safe c.args.r c.args.a c.requires.holds).0

pub write-requires : goal.write-requires
write-requires g c = (get_variable_needs c.args.code.now c.args.branch.now c.args.at c.args.areas.now c.requires.safe c.args.r c.args.a c.requires.holds).1

pub behind-requires : goal.behind-requires
behind-requires g c = within_code c.args.code.now c.args.at (GetVariable c.args.r c.args.a) c.requires.holds

pub returns-clause-safe : goal.returns-clause-safe
returns-clause-safe g c =
    let w = c.in_ok-write.ensures in
    subst (λ to. IsSafeThen c.args.code.now c.args.branch.now c.write.new.areas (On to)) (sym c.behind.ensures)
    (get_variable_safe c.args.code.now c.args.branch.now c.args.at c.args.areas.now c.requires.safe c.args.r c.args.a c.requires.holds c.write.new.areas
    c.register-cell.result c.register-cell.ensures w.written w.same w.slots)

pub returns-clause-stands : goal.returns-clause-stands
returns-clause-stands g c =
    let w = c.in_ok-write.ensures in
    subst (λ to. KeepsStanding c.args.code.now c.args.branch.now c.args.at c.args.areas.now c.args.branch.now c.write.new.areas (On to)) (sym c.behind.ensures)
    (get_variable_stands c.args.code.now c.args.branch.now c.args.at c.args.areas.now c.args.r c.args.a c.requires.holds c.write.new.areas
    c.register-cell.result c.register-cell.ensures w.written w.same)

pub returns-clause-leads : goal.returns-clause-leads
returns-clause-leads g c = led_on c.args.code.now c.args.branch.now c.args.at c.args.areas.now c.requires.safe (GetVariable c.args.r c.args.a) c.requires.holds refl c.behind.result c.behind.ensures
