use Rattle.std.proofs.Common.{refl, sym, subst, ◌∙◌, []}
use Rattle.std.proofs.Common.{◌∷◌}
use Rattle.term_pool.specs.PlacedTerms.{placed_of}
use Rattle.range_terms.specs.TermNodes.{Wanted}
use Rattle.range_terms.specs.Forms.{IsRangeForm}
use Rattle.range_terms.proofs.Positions.{single_one, single_outside, single_dom, no_single}
use Rattle.range_terms.proofs.forms.single_range_form.Goals as goal

pub returns-then-eq : goal.returns-then-eq
returns-then-eq c = λ N p. (refl, single_one N c.args.name.now (placed_of c.args.pool.now c.args.only) p (sym c.eq.ensures ∙ c.if-eq.true))

pub returns-then-eq-2 : goal.returns-then-eq-2
returns-then-eq-2 c = λ N p. (refl, single_outside N c.args.name.now (placed_of c.args.pool.now c.args.only) p (sym c.eq.ensures ∙ c.if-eq.false) (sym c.eq-else-eq.ensures ∙ c.if-eq-2.true))

pub returns-then-eq-3 : goal.returns-then-eq-3
returns-then-eq-3 c = λ N p.
    subst (λ (w : Wanted). IsRangeForm N c.args.pool.now w p (c.args.only ∷ []) c.domain_form.result)
    (sym (single_dom N c.args.name.now (placed_of c.args.pool.now c.args.only) p (sym c.eq.ensures ∙ c.if-eq.false) (sym c.eq-else-eq.ensures ∙ c.if-eq-2.false)
    (sym c.eq-else-eq-2.ensures ∙ c.if-eq-3.true))) (c.domain_form.ensures N p)

pub returns-else-eq-3 : goal.returns-else-eq-3
returns-else-eq-3 c = λ N p. no_single N c.args.name.now (placed_of c.args.pool.now c.args.only) p (sym c.eq.ensures ∙ c.if-eq.false)
    (sym c.eq-else-eq.ensures ∙ c.if-eq-2.false) (sym c.eq-else-eq-2.ensures ∙ c.if-eq-3.false)
