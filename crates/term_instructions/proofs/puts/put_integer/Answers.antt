use Rattle.std.proofs.Common.{FitsSigned, subst, sym, rules, w64, refl}
use Rattle.std.proofs.lemmas.Int.{to_z-of_z}
use Rattle.heap_cells.specs.declared.Cell.TheVariants as cell
use Rattle.wam_code.specs.declared.instruction.Register.TheVariants.{X}
use Rattle.code_meaning.specs.Registers.{IsWritten}
use Rattle.code_safety.specs.Machine.{registers_of}
use Rattle.wam_code.specs.declared.instruction.Code.TheVariants.{PutInteger}
use Rattle.code_safety.specs.Safety.{IsSafeThen}
use Rattle.code_safety.specs.RepresentedBranch.{KeepsStanding}
use Rattle.code_safety.specs.declared.instruction_outcomes.Went.TheVariants.{On}
use Rattle.code_safety.proofs.Lemmas.{within_code, put_integer_stands}
use Rattle.term_instructions.proofs.Steps.{led_on, put_integer_safe}
use Rattle.term_instructions.proofs.puts.put_integer.Goals as goal

pub behind-requires : goal.behind-requires
behind-requires g c = within_code c.args.code.now c.args.at (PutInteger c.args.z c.args.a) c.requires.holds

pub returns-clause-safe : goal.returns-clause-safe
returns-clause-safe g c =
    let w = c.in_ok-write.ensures in
    let fits : FitsSigned w64 c.args.z = search rules in
    let put = subst (λ z. IsWritten (registers_of c.args.areas.now) (X c.args.a) (cell.Int z) (registers_of c.write.new.areas)) (to_z-of_z w64 c.args.z fits) w.written in
    subst (λ to. IsSafeThen c.args.code.now c.args.branch.now c.write.new.areas (On to)) (sym c.behind.ensures)
    (put_integer_safe c.args.code.now c.args.branch.now c.args.at c.args.areas.now c.requires.safe c.args.z c.args.a c.requires.holds c.write.new.areas put w.same w.slots)

pub returns-clause-stands : goal.returns-clause-stands
returns-clause-stands g c =
    let w = c.in_ok-write.ensures in
    let fits : FitsSigned w64 c.args.z = search rules in
    let put = subst (λ z. IsWritten (registers_of c.args.areas.now) (X c.args.a) (cell.Int z) (registers_of c.write.new.areas)) (to_z-of_z w64 c.args.z fits) w.written in
    subst (λ to. KeepsStanding c.args.code.now c.args.branch.now c.args.at c.args.areas.now c.args.branch.now c.write.new.areas (On to)) (sym c.behind.ensures)
    (put_integer_stands c.args.code.now c.args.branch.now c.args.at c.args.areas.now c.requires.safe c.args.z c.args.a c.requires.holds c.write.new.areas put w.same)

pub returns-clause-leads : goal.returns-clause-leads
returns-clause-leads g c = led_on c.args.code.now c.args.branch.now c.args.at c.args.areas.now c.requires.safe (PutInteger c.args.z c.args.a) c.requires.holds refl c.behind.result c.behind.ensures
