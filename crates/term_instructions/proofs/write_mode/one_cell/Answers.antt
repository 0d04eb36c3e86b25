use Rattle.std.proofs.Common.{FitsSigned, subst, sym, rules, w64}
use Rattle.std.proofs.lemmas.Int.{to_z-of_z}
use Rattle.heap_cells.specs.declared.Cell.TheVariants as cell
use Rattle.wam_code.specs.declared.instruction.Code.TheVariants.{UnifyVoid}
use Rattle.wam_code.specs.Area.{Holds}
use Rattle.term_instructions.specs.declared.arguments.Argument.{Argument}
use Rattle.term_instructions.specs.Arguments.{IsOne, code_of}
use Rattle.term_instructions.specs.WriteMode.{GivesOne}
use Rattle.term_instructions.proofs.BuildSteps.{give_value, give_constant, give_integer, give_variable, give_void}
use Rattle.term_instructions.proofs.UnifyInstructions.{variable_needs, value_needs}
use Rattle.term_instructions.proofs.write_mode.one_cell.Goals as goal

pub write-requires : goal.write-requires
write-requires g c = variable_needs c.args.code.now c.args.branch.now c.args.at _ c.args.areas.now c.requires.safe c.requires.some c.in-Variable.r
    (subst (λ (a : Argument). Holds c.args.code.now c.args.at (code_of a)) c.in-Variable.is c.requires.holds)

pub read-requires : goal.read-requires
read-requires g c = value_needs c.args.code.now c.args.branch.now c.args.at _ c.args.areas.now c.requires.safe c.requires.some c.in-Value.r
    (subst (λ (a : Argument). Holds c.args.code.now c.args.at (code_of a)) c.in-Value.is c.requires.holds)

pub returns-in_ok-write-in-Variable : goal.returns-in_ok-write-in-Variable
returns-in_ok-write-in-Variable g c =
    let v = c.in_ok-cell-in-Variable in
    let w = c.in_ok-write-in-Variable.ensures in
    give_variable c.args.code.now c.args.left c.args.branch.now c.args.at c.args.areas.now c.requires.safe c.requires.some c.in-Variable.r
    (subst (λ (a : Argument). Holds c.args.code.now c.args.at (code_of a)) c.in-Variable.is c.requires.holds)
    c.new_var.new.self v.ensures.added v.ensures.sound v.cell v.ensures.id c.write.new.areas w.written w.same w.slots

pub returns-in-Value : goal.returns-in-Value
returns-in-Value g c = give_value c.args.code.now c.args.left c.args.branch.now c.args.at c.args.areas.now c.requires.safe c.requires.some c.in-Value.r
    (subst (λ (a : Argument). Holds c.args.code.now c.args.at (code_of a)) c.in-Value.is c.requires.holds) c.read.result c.read.ensures

pub returns-in-Constant : goal.returns-in-Constant
returns-in-Constant g c = give_constant c.args.code.now c.args.left c.args.branch.now c.args.at c.args.areas.now c.requires.safe c.requires.some c.in-Constant.c
    (subst (λ (a : Argument). Holds c.args.code.now c.args.at (code_of a)) c.in-Constant.is c.requires.holds)

pub returns-in-Integer : goal.returns-in-Integer
returns-in-Integer g c =
    let fits : FitsSigned w64 c.in-Integer.z = search rules in
    subst (λ z. GivesOne c.args.code.now c.args.left c.args.branch.now c.args.at c.args.areas.now c.args.branch.now c.args.areas.now (cell.Int z)) (sym (to_z-of_z w64 c.in-Integer.z fits))
    (give_integer c.args.code.now c.args.left c.args.branch.now c.args.at c.args.areas.now c.requires.safe c.requires.some c.in-Integer.z
    (subst (λ (a : Argument). Holds c.args.code.now c.args.at (code_of a)) c.in-Integer.is c.requires.holds))

pub returns-in_ok-cell-in-Void : goal.returns-in_ok-cell-in-Void
returns-in_ok-cell-in-Void g c =
    let v = c.in_ok-cell-in-Void in
    let holds = subst (λ (a : Argument). Holds c.args.code.now c.args.at (code_of a)) c.in-Void.is c.requires.holds in
    let one = subst IsOne c.in-Void.is c.requires.one in
    give_void c.args.code.now c.args.left c.args.branch.now c.args.at c.args.areas.now c.requires.safe c.requires.some
    (subst (λ n. Holds c.args.code.now c.args.at (UnifyVoid n)) one holds)
    c.new_var-in-Void.new.self v.ensures.added v.ensures.sound v.cell v.ensures.id
