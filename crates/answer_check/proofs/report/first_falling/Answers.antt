use Rattle.std.proofs.Common.{rules, ◌≡◌, ◌∙◌, ◌<◌, ◌≤◌, ◌-◌, suc, [], get_or, sym, subst, arith, true≢false}
use Rattle.fd_model.specs.Answers.{Precedes}
use Rattle.answer_check.specs.Judgement.{values_of}
use Rattle.answer_check.proofs.AnswerOrder.{row_is, rise_more, falling_at, none_falling}
use Rattle.answer_check.proofs.report.first_falling.Goals as goal

pub returns-then-not-precedes : goal.returns-then-not-precedes
returns-then-not-precedes c = λ nss k.
    let a = c.args.answers.now in
    let xs = c.args.labelled.now in
    let i = c.loop-number.number in
    let one : 1 ≤ i = search rules in
    let l : i < a.count = search rules in
    let e : suc (i - 1) ≡ i = omega (arith, one) in
    let old : c.row.result.now ≡ get_or nss (i - 1) [] = row_is a.variables nss a.values.items a.count k.1 a.variables (i - 1) c.row.result.now k.0 (omega (arith, l, one)) c.row.ensures in
    let new : c.row-in-loop-number.result.now ≡ get_or nss i [] = row_is a.variables nss a.values.items a.count k.1 a.variables i c.row-in-loop-number.result.now k.0 l c.row-in-loop-number.ensures in
    falling_at xs nss (i - 1) i e (let n = k.1.count_is in omega (arith, n, l)) (c.loop-number.invariant nss k)
    (λ p. true≢false (sym (c.precedes.ensures.1 (subst (λ ns. Precedes (values_of xs ns) (values_of xs c.row-in-loop-number.result.now)) (sym old)
    (subst (λ ns. Precedes (values_of xs (get_or nss (i - 1) [])) (values_of xs ns)) (sym new) p))) ∙ c.if-not-precedes.true))

pub loop-number-preserved : goal.loop-number-preserved
loop-number-preserved c = λ nss k.
    let a = c.args.answers.now in
    let xs = c.args.labelled.now in
    let i = c.loop-number.number in
    let one : 1 ≤ i = search rules in
    let l : i < a.count = search rules in
    let e : suc (i - 1) ≡ i = omega (arith, one) in
    let old : c.row.result.now ≡ get_or nss (i - 1) [] = row_is a.variables nss a.values.items a.count k.1 a.variables (i - 1) c.row.result.now k.0 (omega (arith, l, one)) c.row.ensures in
    let new : c.row-in-loop-number.result.now ≡ get_or nss i [] = row_is a.variables nss a.values.items a.count k.1 a.variables i c.row-in-loop-number.result.now k.0 l c.row-in-loop-number.ensures in
    rise_more xs nss (i - 1) i e (c.loop-number.invariant nss k)
    (subst (λ ns. Precedes (values_of xs (get_or nss (i - 1) [])) (values_of xs ns)) new
    (subst (λ ns. Precedes (values_of xs ns) (values_of xs c.row-in-loop-number.result.now)) old (c.precedes.ensures.0 c.if-not-precedes.false)))

pub returns : goal.returns
returns c = λ nss k.
    let m : c.args.answers.now.count ≤ c.loop-number.number = search rules in
    none_falling c.args.labelled.now nss c.loop-number.number (let n = k.1.count_is in omega (arith, n, m)) (c.loop-number.invariant nss k)
