use Rattle.std.proofs.Common.{rules, sym, ◌∙◌, ap, length, SFits, to_z-of_z}
use mir.Syntax.{w64}
use Rattle.fd_language.proofs.Lemmas.{two}
use Rattle.domain_ranges.specs.Narrowing.{between}
use Rattle.range_code.specs.Frames.{slot_set, slot_integer}
use Rattle.range_code.specs.Steps.{outside}
use Rattle.range_code.proofs.Forms.{except_one}
use Rattle.range_code.proofs.RangeRuns.{read_nodes, settled_set}
use Rattle.range_code.proofs.settled_reach.Goals as goal

pub value-low-requires-clause-width : goal.value-low-requires-clause-width
value-low-requires-clause-width g c = let k = rw (c.in-Between.is) at c.form.ensures.form in k.low.width

pub value-low-requires-clause-division : goal.value-low-requires-clause-division
value-low-requires-clause-division g c = let k = rw (c.in-Between.is) at c.form.ensures.form in k.low.division

pub value-requires-clause-width : goal.value-requires-clause-width
value-requires-clause-width g c = let k = rw (c.in-Between.is) at c.form.ensures.form in k.high.width

pub value-requires-clause-division : goal.value-requires-clause-division
value-requires-clause-division g c = let k = rw (c.in-Between.is) at c.form.ensures.form in k.high.division

pub value-requires-in-Except-clause-width : goal.value-requires-in-Except-clause-width
value-requires-in-Except-clause-width g c = let k = rw (c.in-Except.is) at c.form.ensures.form in k.value.width

pub value-requires-in-Except-clause-division : goal.value-requires-in-Except-clause-division
value-requires-in-Except-clause-division g c = let k = rw (c.in-Except.is) at c.form.ensures.form in k.value.division

pub both_values-ends-requires-clause-opposite : goal.both_values-ends-requires-clause-opposite
both_values-ends-requires-clause-opposite g c = let k = rw (c.in-Row.is) at c.form.ensures.form in k.1

pub both_values-ends-requires-clause-low_width : goal.both_values-ends-requires-clause-low_width
both_values-ends-requires-clause-low_width g c = let k = rw (c.in-Row.is) at c.form.ensures.form in k.0.low.width

pub both_values-ends-requires-clause-high_width : goal.both_values-ends-requires-clause-high_width
both_values-ends-requires-clause-high_width g c = let k = rw (c.in-Row.is) at c.form.ensures.form in k.0.high.width

pub both_values-ends-requires-clause-low_division : goal.both_values-ends-requires-clause-low_division
both_values-ends-requires-clause-low_division g c = let k = rw (c.in-Row.is) at c.form.ensures.form in k.0.low.division

pub both_values-ends-requires-clause-high_division : goal.both_values-ends-requires-clause-high_division
both_values-ends-requires-clause-high_division g c = let k = rw (c.in-Row.is) at c.form.ensures.form in k.0.high.division

pub value-low-requires-clause-seen : goal.value-low-requires-clause-seen
value-low-requires-clause-seen g c =
    let k = rw (c.in-Between.is) at c.form.ensures.form in
    k.low.seen (length (g.V.View.sets c.args.view.now)) c.args.args.now (read_nodes (g.V.View.sets c.args.view.now) c.args.code.now c.args.args.now c.form.ensures.accepted c.requires.frame)

pub value-requires-clause-seen : goal.value-requires-clause-seen
value-requires-clause-seen g c =
    let k = rw (c.in-Between.is) at c.form.ensures.form in
    k.high.seen (length (g.V.View.sets c.args.view.now)) c.args.args.now (read_nodes (g.V.View.sets c.args.view.now) c.args.code.now c.args.args.now c.form.ensures.accepted c.requires.frame)

pub both_values-ends-requires-clause-seen : goal.both_values-ends-requires-clause-seen
both_values-ends-requires-clause-seen g c =
    let k = rw (c.in-Row.is) at c.form.ensures.form in
    k.0.low.seen (length (g.V.View.sets c.args.view.now)) c.args.args.now (read_nodes (g.V.View.sets c.args.view.now) c.args.code.now c.args.args.now c.form.ensures.accepted c.requires.frame)

pub value-requires-in-Except-clause-seen : goal.value-requires-in-Except-clause-seen
value-requires-in-Except-clause-seen g c =
    let k = rw (c.in-Except.is) at c.form.ensures.form in
    k.value.seen (length (g.V.View.sets c.args.view.now)) c.args.args.now (read_nodes (g.V.View.sets c.args.view.now) c.args.code.now c.args.args.now c.form.ensures.accepted c.requires.frame)

pub returns-in-Between : goal.returns-in-Between
returns-in-Between g c =
    let k = rw (c.in-Between.is) at c.form.ensures.form in
    let a : SFits w64 c.value-low.result = search rules in
    let b : SFits w64 c.value.result = search rules in
    simp to_z-of_z (settled_set (g.V.View.sets c.args.view.now) c.args.code.now c.args.args.now c.form.ensures.accepted c.requires.frame c.requires.some c.requires.settled
    ∙ (k.set (slot_set (g.V.View.sets c.args.view.now) c.args.args.now) (slot_integer c.args.args.now) ∙ sym (two between c.value-low.ensures c.value.ensures)))

pub returns-in-Row : goal.returns-in-Row
returns-in-Row g c =
    let k = rw (c.in-Row.is) at c.form.ensures.form in
    let a : SFits w64 c.both_values-ends.result.0 = search rules in
    let b : SFits w64 c.both_values-ends.result.1 = search rules in
    simp to_z-of_z (settled_set (g.V.View.sets c.args.view.now) c.args.code.now c.args.args.now c.form.ensures.accepted c.requires.frame c.requires.some c.requires.settled
    ∙ (k.0.set (slot_set (g.V.View.sets c.args.view.now) c.args.args.now) (slot_integer c.args.args.now) ∙ sym (two between c.both_values-ends.ensures.low c.both_values-ends.ensures.high)))

pub returns-in-Except : goal.returns-in-Except
returns-in-Except g c =
    let k = rw (c.in-Except.is) at c.form.ensures.form in
    let a : SFits w64 c.value-in-Except.result = search rules in
    simp to_z-of_z (settled_set (g.V.View.sets c.args.view.now) c.args.code.now c.args.args.now c.form.ensures.accepted c.requires.frame c.requires.some c.requires.settled
    ∙ (k.set (slot_set (g.V.View.sets c.args.view.now) c.args.args.now) (slot_integer c.args.args.now)
    ∙ (sym (ap (λ z. outside (between z z)) c.value-in-Except.ensures) ∙ sym (except_one c.value-in-Except.result))))
