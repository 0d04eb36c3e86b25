use Rattle.std.proofs.Common.{rules, SFits, to_z-of_z}
use mir.Syntax.{w64}
use Rattle.range_code.proofs.QuickSets.{differs_quick, above_quick, below_quick}
use Rattle.range_code.proofs.quick_forms.quick_form.Goals as goal

pub returns-in_ok-variable-in-Differs : goal.returns-in_ok-variable-in-Differs
returns-in_ok-variable-in-Differs c =
    let k = rw (c.in-Differs.is) at c.form.ensures.form in
    differs_quick c.args.code.now c.args.args.now c.form.ensures.accepted c.in-Differs.slot c.in_ok-variable-in-Differs.variable c.in_ok-variable-in-Differs.ensures k

pub returns-in_ok-variable-in-Above : goal.returns-in_ok-variable-in-Above
returns-in_ok-variable-in-Above c =
    let k = rw (c.in-Above.is) at c.form.ensures.form in
    let e = rw (c.in-Above.is) at c.form.ensures.shifted in
    let a : SFits w64 c.in-Above.low.constant = search rules in
    let b : SFits w64 c.in-Above.high = search rules in
    simp to_z-of_z (above_quick c.args.code.now c.args.args.now c.form.ensures.accepted (e tt) c.in-Above.low c.in-Above.high c.in_ok-variable-in-Above.variable c.in_ok-variable-in-Above.ensures k)

pub returns-in_ok-variable-in-Below : goal.returns-in_ok-variable-in-Below
returns-in_ok-variable-in-Below c =
    let k = rw (c.in-Below.is) at c.form.ensures.form in
    let e = rw (c.in-Below.is) at c.form.ensures.shifted in
    let a : SFits w64 c.in-Below.high.constant = search rules in
    let b : SFits w64 c.in-Below.low = search rules in
    simp to_z-of_z (below_quick c.args.code.now c.args.args.now c.form.ensures.accepted (e tt) c.in-Below.high c.in-Below.low c.in_ok-variable-in-Below.variable c.in_ok-variable-in-Below.ensures k)
