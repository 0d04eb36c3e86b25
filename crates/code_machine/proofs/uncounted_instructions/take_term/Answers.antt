use Rattle.std.proofs.Common.{subst}
use Rattle.wam_code.specs.declared.instruction.Code.TheVariants as step
use Rattle.wam_code.specs.Area.{Holds}
use Rattle.code_machine.proofs.UncountedInstructions.{same_areas, same_branch, term_moves}
use Rattle.code_machine.proofs.uncounted_instructions.take_term.Goals as goal

pub returns-in_ok-get_variable-in-GetVariable : goal.returns-in_ok-get_variable-in-GetVariable
returns-in_ok-get_variable-in-GetVariable g c =
    term_moves c.args.code.now c.args.branch.now c.args.at c.args.areas.now c.requires.safe.sound.greatest.1
    (step.GetVariable c.in-GetVariable.r c.in-GetVariable.a) tt (subst (Holds c.args.code.now c.args.at) c.in-GetVariable.is c.requires.holds)
    c.args.branch.now c.get_variable.new.areas
    (same_branch c.args.branch.now) c.in_ok-get_variable-in-GetVariable.ensures.same c.in_ok-get_variable-in-GetVariable.field-0
    c.in_ok-get_variable-in-GetVariable.ensures.safe c.in_ok-get_variable-in-GetVariable.ensures.stands c.in_ok-get_variable-in-GetVariable.ensures.leads

pub returns-in_ok-get_value-in-GetValue : goal.returns-in_ok-get_value-in-GetValue
returns-in_ok-get_value-in-GetValue g c =
    term_moves c.args.code.now c.args.branch.now c.args.at c.args.areas.now c.requires.safe.sound.greatest.1 (step.GetValue c.in-GetValue.r c.in-GetValue.a) tt
    (subst (Holds c.args.code.now c.args.at) c.in-GetValue.is c.requires.holds) c.get_value.new.branch c.args.areas.now
    c.in_ok-get_value-in-GetValue.ensures.same (same_areas c.args.areas.now) c.in_ok-get_value-in-GetValue.field-0 c.in_ok-get_value-in-GetValue.ensures.safe
    c.in_ok-get_value-in-GetValue.ensures.stands c.in_ok-get_value-in-GetValue.ensures.leads

pub returns-in_ok-get_constant-in-GetConstant : goal.returns-in_ok-get_constant-in-GetConstant
returns-in_ok-get_constant-in-GetConstant g c =
    term_moves c.args.code.now c.args.branch.now c.args.at c.args.areas.now c.requires.safe.sound.greatest.1
    (step.GetConstant c.in-GetConstant.c c.in-GetConstant.a) tt (subst (Holds c.args.code.now c.args.at) c.in-GetConstant.is c.requires.holds)
    c.get_constant.new.branch c.args.areas.now
    c.in_ok-get_constant-in-GetConstant.ensures.same (same_areas c.args.areas.now) c.in_ok-get_constant-in-GetConstant.field-0
    c.in_ok-get_constant-in-GetConstant.ensures.safe c.in_ok-get_constant-in-GetConstant.ensures.stands c.in_ok-get_constant-in-GetConstant.ensures.leads

pub returns-in_ok-get_integer-in-GetInteger : goal.returns-in_ok-get_integer-in-GetInteger
returns-in_ok-get_integer-in-GetInteger g c =
    term_moves c.args.code.now c.args.branch.now c.args.at c.args.areas.now c.requires.safe.sound.greatest.1
    (step.GetInteger c.in-GetInteger.z c.in-GetInteger.a) tt (subst (Holds c.args.code.now c.args.at) c.in-GetInteger.is c.requires.holds)
    c.get_integer.new.branch c.args.areas.now
    c.in_ok-get_integer-in-GetInteger.ensures.same (same_areas c.args.areas.now) c.in_ok-get_integer-in-GetInteger.field-0
    c.in_ok-get_integer-in-GetInteger.ensures.safe c.in_ok-get_integer-in-GetInteger.ensures.stands c.in_ok-get_integer-in-GetInteger.ensures.leads

pub returns-in_ok-get_structure-in-GetStructure : goal.returns-in_ok-get_structure-in-GetStructure
returns-in_ok-get_structure-in-GetStructure g c =
    term_moves c.args.code.now c.args.branch.now c.args.at c.args.areas.now c.requires.safe.sound.greatest.1
    (step.GetStructure c.in-GetStructure.f c.in-GetStructure.n c.in-GetStructure.a) tt
    (subst (Holds c.args.code.now c.args.at) c.in-GetStructure.is c.requires.holds) c.get_structure.new.branch c.get_structure.new.areas
    c.in_ok-get_structure-in-GetStructure.ensures.below c.in_ok-get_structure-in-GetStructure.ensures.behind c.in_ok-get_structure-in-GetStructure.field-0
    c.in_ok-get_structure-in-GetStructure.ensures.safe c.in_ok-get_structure-in-GetStructure.ensures.stands
    c.in_ok-get_structure-in-GetStructure.ensures.leads

pub returns-in_ok-put_variable-in-PutVariable : goal.returns-in_ok-put_variable-in-PutVariable
returns-in_ok-put_variable-in-PutVariable g c =
    term_moves c.args.code.now c.args.branch.now c.args.at c.args.areas.now c.requires.safe.sound.greatest.1
    (step.PutVariable c.in-PutVariable.r c.in-PutVariable.a) tt (subst (Holds c.args.code.now c.args.at) c.in-PutVariable.is c.requires.holds)
    c.put_variable.new.branch c.put_variable.new.areas
    c.in_ok-put_variable-in-PutVariable.ensures.below c.in_ok-put_variable-in-PutVariable.ensures.behind c.in_ok-put_variable-in-PutVariable.field-0
    c.in_ok-put_variable-in-PutVariable.ensures.safe c.in_ok-put_variable-in-PutVariable.ensures.stands c.in_ok-put_variable-in-PutVariable.ensures.leads

pub returns-in_ok-put_value-in-PutValue : goal.returns-in_ok-put_value-in-PutValue
returns-in_ok-put_value-in-PutValue g c =
    term_moves c.args.code.now c.args.branch.now c.args.at c.args.areas.now c.requires.safe.sound.greatest.1 (step.PutValue c.in-PutValue.r c.in-PutValue.a) tt
    (subst (Holds c.args.code.now c.args.at) c.in-PutValue.is c.requires.holds) c.args.branch.now c.put_value.new.areas
    (same_branch c.args.branch.now) c.in_ok-put_value-in-PutValue.ensures.same c.in_ok-put_value-in-PutValue.field-0 c.in_ok-put_value-in-PutValue.ensures.safe
    c.in_ok-put_value-in-PutValue.ensures.stands c.in_ok-put_value-in-PutValue.ensures.leads

pub returns-in_ok-put_constant-in-PutConstant : goal.returns-in_ok-put_constant-in-PutConstant
returns-in_ok-put_constant-in-PutConstant g c =
    term_moves c.args.code.now c.args.branch.now c.args.at c.args.areas.now c.requires.safe.sound.greatest.1
    (step.PutConstant c.in-PutConstant.c c.in-PutConstant.a) tt (subst (Holds c.args.code.now c.args.at) c.in-PutConstant.is c.requires.holds)
    c.args.branch.now c.put_constant.new.areas
    (same_branch c.args.branch.now) c.in_ok-put_constant-in-PutConstant.ensures.same c.in_ok-put_constant-in-PutConstant.field-0
    c.in_ok-put_constant-in-PutConstant.ensures.safe c.in_ok-put_constant-in-PutConstant.ensures.stands c.in_ok-put_constant-in-PutConstant.ensures.leads

pub returns-in_ok-put_integer-in-PutInteger : goal.returns-in_ok-put_integer-in-PutInteger
returns-in_ok-put_integer-in-PutInteger g c =
    term_moves c.args.code.now c.args.branch.now c.args.at c.args.areas.now c.requires.safe.sound.greatest.1
    (step.PutInteger c.in-PutInteger.z c.in-PutInteger.a) tt (subst (Holds c.args.code.now c.args.at) c.in-PutInteger.is c.requires.holds) c.args.branch.now
    c.put_integer.new.areas
    (same_branch c.args.branch.now) c.in_ok-put_integer-in-PutInteger.ensures.same c.in_ok-put_integer-in-PutInteger.field-0
    c.in_ok-put_integer-in-PutInteger.ensures.safe c.in_ok-put_integer-in-PutInteger.ensures.stands c.in_ok-put_integer-in-PutInteger.ensures.leads

pub returns-in_ok-put_structure-in-PutStructure : goal.returns-in_ok-put_structure-in-PutStructure
returns-in_ok-put_structure-in-PutStructure g c =
    term_moves c.args.code.now c.args.branch.now c.args.at c.args.areas.now c.requires.safe.sound.greatest.1
    (step.PutStructure c.in-PutStructure.f c.in-PutStructure.n c.in-PutStructure.a) tt
    (subst (Holds c.args.code.now c.args.at) c.in-PutStructure.is c.requires.holds) c.put_structure.new.branch c.put_structure.new.areas
    c.in_ok-put_structure-in-PutStructure.ensures.below c.in_ok-put_structure-in-PutStructure.ensures.behind c.in_ok-put_structure-in-PutStructure.field-0
    c.in_ok-put_structure-in-PutStructure.ensures.safe c.in_ok-put_structure-in-PutStructure.ensures.stands
    c.in_ok-put_structure-in-PutStructure.ensures.leads
