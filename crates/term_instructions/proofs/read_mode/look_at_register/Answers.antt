use Rattle.std.proofs.Common.{[], suc, refl, subst, arith}
use Rattle.std.proofs.Math.Seq.{drop-cons}
use Rattle.std.proofs.lemmas.List.Elements.{All-nil}
use Rattle.branch_state.specs.Steps.{IsTouchBelow}
use Rattle.wam_code.specs.Area.{Holds}
use Rattle.term_instructions.proofs.ReadSteps.{reads_variable}
use Rattle.term_instructions.proofs.UnifyInstructions.{place_within, variable_needs}
use Rattle.term_instructions.proofs.read_mode.look_at_register.Goals as goal

pub code_at-requires : goal.code_at-requires
code_at-requires g c = place_within c.args.code.now c.args.branch.now c.args.from.at _ c.args.areas.now c.requires.safe

pub write-requires : goal.write-requires
write-requires g c = variable_needs c.args.code.now c.args.branch.now c.args.from.at _ c.args.areas.now c.requires.safe (let more = c.requires.more in
    omega (arith, more)) c.in-UnifyVariable.r (subst (Holds c.args.code.now c.args.from.at) c.in-UnifyVariable.is c.code_at.ensures.holds)

pub returns-in_ok-write-in-UnifyVariable : goal.returns-in_ok-write-in-UnifyVariable
returns-in_ok-write-in-UnifyVariable g c =
    let w = c.in_ok-write-in-UnifyVariable.ensures in
    let holds = subst (Holds c.args.code.now c.args.from.at) c.in-UnifyVariable.is c.code_at.ensures.holds in
    reads_variable c.args.code.now c.args.cells.now c.args.branch.now [] c.args.from.at c.args.from.next c.args.areas.now c.requires.safe c.requires.more
    c.requires.own (All-nil (IsTouchBelow _)) _ (drop-cons c.args.cells.now c.args.from.next _ c.requires.more)
    c.in-UnifyVariable.r holds (c.requires.own c.args.from.next _ c.requires.more) c.write.new.areas w.written w.same w.slots
    (record { at = suc c.args.from.at; next = suc c.args.from.next }) refl refl
