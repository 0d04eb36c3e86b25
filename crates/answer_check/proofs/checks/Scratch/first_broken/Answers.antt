use Rattle.std.proofs.Common.{rules, ◌≡◌, get_or, sym, subst, ◌∙◌, true≢false}
use Rattle.answer_check.specs.Checks.{Meets}
use Rattle.answer_check.specs.AnswerLines.{assigned}
use Rattle.answer_check.proofs.BrokenConstraints.{broken_at}
use Rattle.answer_check.proofs.CheckSteps.{met_step, all_met}
use Rattle.answer_check.proofs.checks.Scratch.first_broken.Goals as goal

pub returns-then-not-branch : goal.returns-then-not-branch
returns-then-not-branch c =
    let k = c.index-constraints-number.result in
    let is : k ≡ get_or c.args.constraints.now c.loop-number.number k = search rules in
    broken_at (assigned c.args.values.now) 1 c.loop-number.number c.args.constraints.now k c.loop-number-test.true c.loop-number.invariant
    (λ m. true≢false (sym (c.in_ok-is_satisfied.ensures.1 (subst (Meets (assigned c.args.values.now)) (sym is) m)) ∙ c.if-not-branch.true))

pub loop-number-preserved : goal.loop-number-preserved
loop-number-preserved c =
    let k = c.index-constraints-number.result in
    let is : k ≡ get_or c.args.constraints.now c.loop-number.number k = search rules in
    met_step k (assigned c.args.values.now) c.args.constraints.now c.loop-number.number c.loop-number-test.true c.loop-number.invariant
    (subst (Meets (assigned c.args.values.now)) is (c.in_ok-is_satisfied.ensures.0 c.if-not-branch.false))

pub returns : goal.returns
returns c = all_met (assigned c.args.values.now) c.args.constraints.now c.loop-number.number c.loop-number-test.false c.loop-number.invariant
