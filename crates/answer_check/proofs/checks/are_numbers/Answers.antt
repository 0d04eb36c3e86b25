use Rattle.std.proofs.Common.{rules, SFits, to_z-of_z, sym, true≢false, ◌∙◌}
use mir.Syntax.{w64}
use Rattle.answer_check.specs.AnswerLines.{assigned}
use Rattle.answer_check.proofs.CheckSteps.{none_true, numbers_step, numbers_stop}
use Rattle.answer_check.proofs.checks.are_numbers.Goals as goal

pub returns-then-not-is_number : goal.returns-then-not-is_number
returns-then-not-is_number c =
    let f : SFits w64 c.worth.result = search rules in
    let test = simp to_z-of_z at c.is_number.ensures in
    none_true (numbers_stop _ (assigned c.args.values.now) c.args.members.now c.loop-member.member-index c.worth.result c.loop-member-test.true c.worth.ensures
    (λ n. true≢false (sym (test.1 n) ∙ c.if-not-is_number.true)))

pub loop-member-preserved : goal.loop-member-preserved
loop-member-preserved c =
    let f : SFits w64 c.worth.result = search rules in
    let test = simp to_z-of_z at c.is_number.ensures in
    numbers_step _ (assigned c.args.values.now) c.args.members.now c.loop-member.member-index c.worth.result c.loop-member-test.true c.worth.ensures
    c.loop-member.invariant (test.0 c.if-not-is_number.false)
