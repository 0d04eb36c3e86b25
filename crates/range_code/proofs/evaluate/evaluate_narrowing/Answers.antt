use Rattle.std.proofs.Common.{rules, arith, ◌∙◌, sym, ap, subst, filter, ◌≤◌, length, SFits, to_z-of_z}
use mir.Syntax.{w64}
use Rattle.std.specs.List.{All}
use Rattle.fd_language.specs.declared.TheConstants.{INFINITY}
use Rattle.fd_language.specs.Family.{universe}
use Rattle.fd_language.proofs.Lemmas.{two}
use Rattle.domain_ranges.specs.Narrowing.{between}
use Rattle.range_code.specs.Choices.{is_chosen, AreRising}
use Rattle.range_code.specs.Frames.{slot_set, slot_integer}
use Rattle.range_code.specs.Nodes.{IsReadable}
use Rattle.range_code.specs.Steps.{outside}
use Rattle.range_code.specs.StepNodes.{all_steps}
use Rattle.range_code.proofs.Heights.{some_height}
use Rattle.range_code.proofs.Forms.{narrows_same, spells_itself}
use Rattle.range_code.proofs.evaluate.evaluate_narrowing.Goals as goal

pub value-low-requires-clause-width : goal.value-low-requires-clause-width
value-low-requires-clause-width g c = let k = rw (c.in-Without.is) at c.requires.form in k.low.width

pub value-low-requires-clause-division : goal.value-low-requires-clause-division
value-low-requires-clause-division g c = let k = rw (c.in-Without.is) at c.requires.form in k.low.division

pub value-low-requires-clause-seen : goal.value-low-requires-clause-seen
value-low-requires-clause-seen g c =
    let k = rw (c.in-Without.is) at c.requires.form in
    k.low.seen (length (g.V.View.sets c.args.view.now)) c.args.args.now
    (subst (All (IsReadable (length (g.V.View.sets c.args.view.now)) c.args.args.now)) (spells_itself (all_steps c.args.steps.now) c.requires.spelled)
    c.requires.readable)

pub value-requires-clause-width : goal.value-requires-clause-width
value-requires-clause-width g c = let k = rw (c.in-Without.is) at c.requires.form in k.high.width

pub value-requires-clause-division : goal.value-requires-clause-division
value-requires-clause-division g c = let k = rw (c.in-Without.is) at c.requires.form in k.high.division

pub value-requires-clause-seen : goal.value-requires-clause-seen
value-requires-clause-seen g c =
    let k = rw (c.in-Without.is) at c.requires.form in
    k.high.seen (length (g.V.View.sets c.args.view.now)) c.args.args.now
    (subst (All (IsReadable (length (g.V.View.sets c.args.view.now)) c.args.args.now)) (spells_itself (all_steps c.args.steps.now) c.requires.spelled)
    c.requires.readable)

pub returns-in-Without-clause-narrowed : goal.returns-in-Without-clause-narrowed
returns-in-Without-clause-narrowed g c =
    let k = rw (c.in-Without.is) at c.requires.form in
    let a : SFits w64 c.value-low.result = search rules in
    let b : SFits w64 c.value.result = search rules in
    let n = simp to_z-of_z at c.narrow_outside.ensures in
    narrows_same c.narrow_outside.result c.args.target.now (outside (between c.value-low.result c.value.result)) _
    (ap outside (two between c.value-low.ensures c.value.ensures) ∙ sym (k.set (slot_set (g.V.View.sets c.args.view.now) c.args.args.now) (slot_integer c.args.args.now))) n

pub slot_domain-keys-requires : goal.slot_domain-keys-requires
slot_domain-keys-requires g c =
    let k = rw (c.in-Chosen.is) at c.requires.form in
    k.seen (length (g.V.View.sets c.args.view.now)) c.args.args.now
    (subst (All (IsReadable (length (g.V.View.sets c.args.view.now)) c.args.args.now)) (spells_itself (all_steps c.args.steps.now) c.requires.spelled)
    c.requires.readable)

pub returns-in-Chosen-clause-narrowed : goal.returns-in-Chosen-clause-narrowed
returns-in-Chosen-clause-narrowed g c =
    let k = rw (c.in-Chosen.is) at c.requires.form in
    narrows_same c.narrow_to_chosen.result c.args.target.now (filter (is_chosen c.slot_domain-keys.result.now c.deref.result.now) (universe INFINITY)) _
    (two (λ keys pairs. filter (is_chosen keys pairs) (universe INFINITY)) c.slot_domain-keys.ensures c.deref.ensures.value
    ∙ sym (k.set (slot_set (g.V.View.sets c.args.view.now) c.args.args.now) (slot_integer c.args.args.now))) c.narrow_to_chosen.ensures.narrowed

pub narrow_to_chosen-requires-clause-room : goal.narrow_to_chosen-requires-clause-room
narrow_to_chosen-requires-clause-room g c = let h = some_height (all_steps c.args.steps.now) c.requires.spelled in omega (arith, h, c.requires.sets)

pub narrow_to_chosen-requires-clause-high : goal.narrow_to_chosen-requires-clause-high
narrow_to_chosen-requires-clause-high g c =
    let k = rw (c.in-Chosen.is) at c.requires.form in
    subst (All (λ pair. pair.1 ≤ INFINITY)) (sym c.deref.ensures.value) k.high

pub narrow_to_chosen-requires-clause-rising : goal.narrow_to_chosen-requires-clause-rising
narrow_to_chosen-requires-clause-rising g c =
    let k = rw (c.in-Chosen.is) at c.requires.form in
    subst AreRising (sym c.deref.ensures.value) k.rising
