use Rattle.std.proofs.Common.{rules, ◌≡◌, sym, ◌∙◌, ap, subst, false, length, SFits, to_z-of_z}
use mir.Syntax.{w64}
use Rattle.std.specs.List.{list_any}
use Rattle.fd_language.specs.Range.{is_several}
use Rattle.domain_ranges.specs.Narrowing.{between}
use Rattle.range_code.specs.Frames.{slot_set, slot_integer}
use Rattle.range_code.proofs.RangeRuns.{vals_there, open_set, differs_seen, differs_reach, read_nodes, shifted_set}
use Rattle.range_code.proofs.reach_of.Goals as goal

pub least-requires-clause-width : goal.least-requires-clause-width
least-requires-clause-width g c = let k = rw (c.in-Above.is) at c.form-form.ensures.form in k.usable.width

pub greatest-requires-clause-width : goal.greatest-requires-clause-width
greatest-requires-clause-width g c = let k = rw (c.in-Below.is) at c.form-form.ensures.form in k.usable.width

pub least-requires-clause-seen : goal.least-requires-clause-seen
least-requires-clause-seen g c =
    let k = rw (c.in-Above.is) at c.form-form.ensures.form in
    k.usable.seen (length (g.V.View.sets c.args.view.now)) c.args.args.now (read_nodes (g.V.View.sets c.args.view.now) c.args.code.now c.args.args.now c.form-form.ensures.accepted c.requires.frame)

pub greatest-requires-clause-seen : goal.greatest-requires-clause-seen
greatest-requires-clause-seen g c =
    let k = rw (c.in-Below.is) at c.form-form.ensures.form in
    k.usable.seen (length (g.V.View.sets c.args.view.now)) c.args.args.now (read_nodes (g.V.View.sets c.args.view.now) c.args.code.now c.args.args.now c.form-form.ensures.accepted c.requires.frame)

pub slot_domain-requires : goal.slot_domain-requires
slot_domain-requires g c =
    let k = rw (c.in-Differs.is) at c.form-form.ensures.form in
    differs_seen (g.V.View.sets c.args.view.now) c.args.code.now c.args.args.now c.form-form.ensures.accepted c.requires.frame _ k

pub is_some_open-requires : goal.is_some_open-requires
is_some_open-requires g c = vals_there (g.V.View.sets c.args.view.now) c.args.code.now c.args.args.now c.vals.ensures.accepted c.requires.frame c.vals.result.now c.vals.ensures.vals

pub settled_reach-requires-clause-settled : goal.settled_reach-requires-clause-settled
settled_reach-requires-clause-settled g c = subst (λ ys. list_any (λ s. is_several (slot_set (g.V.View.sets c.args.view.now) c.args.args.now s)) ys ≡ false)
    c.vals.ensures.vals (sym c.is_some_open.ensures ∙ c.if-is_some_open.false)

pub returns-in-Above-clause-reach : goal.returns-in-Above-clause-reach
returns-in-Above-clause-reach g c =
    let k = rw (c.in-Above.is) at c.form-form.ensures.form in
    let e = rw (c.in-Above.is) at c.form-form.ensures.shifted in
    let a : SFits w64 c.least.result = search rules in
    let b : SFits w64 c.in-Above.high = search rules in
    simp to_z-of_z (shifted_set (g.V.View.sets c.args.view.now) c.args.code.now c.args.args.now c.form-form.ensures.accepted c.requires.frame c.requires.some (e tt)
    ∙ (k.set (slot_set (g.V.View.sets c.args.view.now) c.args.args.now) (slot_integer c.args.args.now) ∙ sym (ap (λ z. between z c.in-Above.high) c.least.ensures)))

pub returns-in-Below-clause-reach : goal.returns-in-Below-clause-reach
returns-in-Below-clause-reach g c =
    let k = rw (c.in-Below.is) at c.form-form.ensures.form in
    let e = rw (c.in-Below.is) at c.form-form.ensures.shifted in
    let a : SFits w64 c.greatest.result = search rules in
    let b : SFits w64 c.in-Below.low = search rules in
    simp to_z-of_z (shifted_set (g.V.View.sets c.args.view.now) c.args.code.now c.args.args.now c.form-form.ensures.accepted c.requires.frame c.requires.some (e tt)
    ∙ (k.set (slot_set (g.V.View.sets c.args.view.now) c.args.args.now) (slot_integer c.args.args.now) ∙ sym (ap (between c.in-Below.low) c.greatest.ensures)))

pub returns-in-Differs-clause-reach : goal.returns-in-Differs-clause-reach
returns-in-Differs-clause-reach g c =
    let k = rw (c.in-Differs.is) at c.form-form.ensures.form in
    differs_reach (g.V.View.sets c.args.view.now) c.args.code.now c.args.args.now c.form-form.ensures.accepted c.requires.frame _ k c.requires.some
    c.slot_domain.result.now c.reach_without.result c.slot_domain.ensures c.reach_without.ensures.open c.reach_without.ensures.known

pub returns-then-is_some_open-clause-reach : goal.returns-then-is_some_open-clause-reach
returns-then-is_some_open-clause-reach g c =
    open_set (g.V.View.sets c.args.view.now) c.args.code.now c.args.args.now c.vals.ensures.accepted c.requires.frame c.vals.result.now c.requires.some
    c.vals.ensures.vals (sym c.if-is_some_open.true ∙ c.is_some_open.ensures)
