use Rattle.std.proofs.Common.{rules, refl, sym, subst, SFits, to_z-of_z}
use mir.Syntax.{w64}
use Rattle.fd_language.specs.declared.TheConstants.{INFINITY}
use Rattle.fd_language.specs.Family.{IsSubset}
use Rattle.fd_language.proofs.Lemmas.{rising_inside}
use Rattle.domain_ranges.specs.Narrowing.{between, all_but}
use Rattle.range_code.specs.ValSlots.{val_slots}
use Rattle.range_code.proofs.Forms.{narrows_same}
use Rattle.range_code.proofs.RangeRuns.{nodes_readable, nodes_spelled, nodes_fit_family, table_narrows}
use Rattle.range_code.specs.Slots.{in_slots}
use Rattle.range_code.specs.FoldedRanges.{folded_range}
use Rattle.range_code.proofs.Forms.{form_spells}
use Rattle.range_code.proofs.FoldedRanges.{form_folded}
use Rattle.range_code.proofs.narrow.Goals as goal

pub evaluate_narrowing-requires-clause-readable : goal.evaluate_narrowing-requires-clause-readable
evaluate_narrowing-requires-clause-readable g c = nodes_readable (g.V.View.sets c.args.view.now) c.args.code.now c.args.args.now c.form.ensures.accepted c.requires.frame _ c.steps.ensures.nodes

pub evaluate_narrowing-requires-clause-fits : goal.evaluate_narrowing-requires-clause-fits
evaluate_narrowing-requires-clause-fits g c = nodes_fit_family (g.V.View.sets c.args.view.now) c.args.code.now c.args.args.now c.form.ensures.accepted
    c.requires.frame _ c.steps.ensures.nodes c.requires.family

pub evaluate_narrowing-requires-clause-form : goal.evaluate_narrowing-requires-clause-form
evaluate_narrowing-requires-clause-form g c = form_spells _ (folded_range (in_slots c.args.code.now)) c.form.result.now c.steps.ensures.nodes
    (form_folded (in_slots c.args.code.now) c.form.result.now c.form.ensures.form)

pub evaluate_narrowing-requires-clause-spelled : goal.evaluate_narrowing-requires-clause-spelled
evaluate_narrowing-requires-clause-spelled g c = nodes_spelled (g.V.View.sets c.args.view.now) c.args.code.now c.args.args.now c.form.ensures.accepted c.requires.frame _ c.steps.ensures.nodes

pub returns-in-Between-clause-narrowed : goal.returns-in-Between-clause-narrowed
returns-in-Between-clause-narrowed g c =
    let a : SFits w64 c.in-Between.low = search rules in
    let b : SFits w64 c.in-Between.high = search rules in
    let k = rw (c.in-Between.is) at c.reach_of.ensures.reach in
    let n = simp to_z-of_z at c.narrowed_between.ensures.narrowed in
    narrows_same c.narrowed_between.result c.args.target.now (between c.in-Between.low c.in-Between.high) _ (sym k) n

pub returns-in-Except-clause-narrowed : goal.returns-in-Except-clause-narrowed
returns-in-Except-clause-narrowed g c =
    let a : SFits w64 c.in-Except.number = search rules in
    let k = rw (c.in-Except.is) at c.reach_of.ensures.reach in
    let n = simp to_z-of_z at c.narrowed_without.ensures.narrowed in
    narrows_same c.narrowed_without.result c.args.target.now (all_but c.in-Except.number) _ (sym k) n

pub returns-in-All-clause-narrowed : goal.returns-in-All-clause-narrowed
returns-in-All-clause-narrowed g c =
    let k = rw (c.in-All.is) at c.reach_of.ensures.reach in
    subst (IsSubset c.args.target.now) (sym k) (rising_inside INFINITY c.args.target.now c.rises.ensures)

pub returns-in-Other-clause-narrowed : goal.returns-in-Other-clause-narrowed
returns-in-Other-clause-narrowed g c =
    table_narrows (g.V.View.sets c.args.view.now) c.args.code.now c.args.args.now c.form.ensures.accepted c.requires.frame _ c.steps.ensures.nodes
    c.evaluate_narrowing.result c.args.target.now (val_slots c.args.code.now) c.requires.some refl (sym (c.reach_of.ensures.other c.in-Other.is))
    c.evaluate_narrowing.ensures.narrowed
