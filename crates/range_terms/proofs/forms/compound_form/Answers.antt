use Rattle.std.proofs.Common.{sym, subst}
use Rattle.fd_language.specs.PlacedTerm.{comp}
use Rattle.term_pool.specs.PlacedTerms.{placed_of, parts_by}
use Rattle.range_terms.specs.TermNodes.{wanted}
use Rattle.range_terms.specs.Forms.{IsRangeForm}
use Rattle.range_terms.specs.declared.forms.Position.{Position}
use Rattle.range_terms.proofs.forms.compound_form.Goals as goal

pub returns-in-Range : goal.returns-in-Range
returns-in-Range c = λ N p. subst (λ (l : Position). IsRangeForm N c.args.pool.now
    (wanted N l (comp c.args.name.now p (parts_by (placed_of c.args.pool.now) c.args.parts.now))) p c.args.parts.now c.range_form.result) (sym c.in-Range.is)
    (c.range_form.ensures N p)

pub returns-in-Term : goal.returns-in-Term
returns-in-Term c = λ N p. subst (λ (l : Position). IsRangeForm N c.args.pool.now
    (wanted N l (comp c.args.name.now p (parts_by (placed_of c.args.pool.now) c.args.parts.now))) p c.args.parts.now c.term_form.result) (sym c.in-Term.is)
    (c.term_form.ensures N p)

pub returns-in-Constant : goal.returns-in-Constant
returns-in-Constant c = λ N p. subst (λ (l : Position). IsRangeForm N c.args.pool.now
    (wanted N l (comp c.args.name.now p (parts_by (placed_of c.args.pool.now) c.args.parts.now))) p c.args.parts.now c.constant_form.result)
    (sym c.in-Constant.is) (c.constant_form.ensures N p)
