use Rattle.std.proofs.Common.{◌∙◌, ◌<◌, sym, arith, ap}
use Rattle.std.proofs.lemmas.Bool.{ltb-true, lt-ltb}
use Rattle.answer_check.specs.Judgement.{values_of}
use Rattle.answer_check.proofs.Lists.{take_whole}
use Rattle.answer_check.proofs.CheckSteps.{none_true}
use Rattle.answer_check.proofs.AnswerOrder.{precedes_to, precedes_from, none_precedes}
use Rattle.answer_check.proofs.report.precedes.Goals as goal

pub returns-then-first-second : goal.returns-then-first-second
returns-then-first-second c =
    let xs = c.args.labelled.now in
    let ns = c.args.before.now in
    let ms = c.args.behind.now in
    let i = c.loop-variable.variable-index in
    let x = c.value-first.result in
    let y = c.value-second.result in
    let e = c.value-first.ensures in
    let f = c.value-second.ensures in (
      (λ h. precedes_to xs ns ms i c.loop-variable-test.true c.loop-variable.invariant (let l : x < y = ltb-true x y h in omega (arith, l, e, f))),
      (λ p. lt-ltb x y (let l = precedes_from xs ns ms i c.loop-variable-test.true c.loop-variable.invariant (λ s. c.if-first-second.true (e ∙ s ∙ sym f)) p in omega (arith, l, e, f))),
    )

pub returns : goal.returns
returns c =
    let xs = c.args.labelled.now in
    let ns = c.args.before.now in
    let ms = c.args.behind.now in
    let whole = take_whole xs c.loop-variable.variable-index c.loop-variable-test.false in
    none_true (none_precedes xs ns ms (ap (λ ys. values_of ys ns) (sym whole) ∙ c.loop-variable.invariant ∙ ap (λ ys. values_of ys ms) whole))
