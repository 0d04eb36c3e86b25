use Rattle.std.proofs.Common.{subst, sym, refl}
use Rattle.wam_code.specs.declared.instruction.Code.TheVariants.{PutConstant}
use Rattle.code_safety.specs.Safety.{IsSafeThen}
use Rattle.code_safety.specs.RepresentedBranch.{KeepsStanding}
use Rattle.code_safety.specs.declared.instruction_outcomes.Went.TheVariants.{On}
use Rattle.code_safety.proofs.Lemmas.{within_code, put_constant_stands}
use Rattle.term_instructions.proofs.Steps.{led_on, put_constant_safe}
use Rattle.term_instructions.proofs.puts.put_constant.Goals as goal

pub behind-requires : goal.behind-requires
behind-requires g c = within_code c.args.code.now c.args.at (PutConstant c.args.c c.args.a) c.requires.holds

pub returns-clause-safe : goal.returns-clause-safe
returns-clause-safe g c =
    let w = c.in_ok-write.ensures in
    subst (λ to. IsSafeThen c.args.code.now c.args.branch.now c.write.new.areas (On to)) (sym c.behind.ensures)
    (put_constant_safe c.args.code.now c.args.branch.now c.args.at c.args.areas.now c.requires.safe c.args.c c.args.a c.requires.holds c.write.new.areas w.written w.same w.slots)

pub returns-clause-stands : goal.returns-clause-stands
returns-clause-stands g c =
    let w = c.in_ok-write.ensures in
    subst (λ to. KeepsStanding c.args.code.now c.args.branch.now c.args.at c.args.areas.now c.args.branch.now c.write.new.areas (On to)) (sym c.behind.ensures)
    (put_constant_stands c.args.code.now c.args.branch.now c.args.at c.args.areas.now c.requires.safe c.args.c c.args.a c.requires.holds c.write.new.areas w.written w.same)

pub returns-clause-leads : goal.returns-clause-leads
returns-clause-leads g c = led_on c.args.code.now c.args.branch.now c.args.at c.args.areas.now c.requires.safe (PutConstant c.args.c c.args.a) c.requires.holds refl c.behind.result c.behind.ensures
