use Rattle.std.proofs.Common.{List, sym, subst}
use Rattle.fd_language.specs.PlacedTerm.{comp}
use Rattle.term_pool.specs.declared.TermId.{TermId}
use Rattle.term_pool.specs.PlacedTerms.{placed_of, parts_by}
use Rattle.range_terms.specs.TermNodes.{wanted}
use Rattle.range_terms.specs.Forms.{IsRangeForm}
use Rattle.range_terms.specs.declared.forms.Position.TheVariants as place_in
use Rattle.range_terms.proofs.Positions.{empty_nowhere, several_nowhere}
use Rattle.term_pool.proofs.Lemmas.{one_part, two_parts}
use Rattle.range_terms.proofs.forms.term_form.Goals as goal

pub returns-in-len1 : goal.returns-in-len1
returns-in-len1 c = λ N p.
    subst (λ (ts : List TermId). IsRangeForm N c.args.pool.now (wanted N place_in.Term (comp c.args.name.now p (parts_by (placed_of c.args.pool.now) ts))) p ts c.feature_form.result)
    (sym (one_part c.args.parts.now (record { number = 0 }) c.in-len1.len_at_least c.in-len1.len_below)) (c.feature_form.ensures N p)

pub returns-in-len2 : goal.returns-in-len2
returns-in-len2 c = λ N p.
    subst (λ (ts : List TermId). IsRangeForm N c.args.pool.now (wanted N place_in.Term (comp c.args.name.now p (parts_by (placed_of c.args.pool.now) ts))) p ts c.operation_form.result)
    (sym (two_parts c.args.parts.now (record { number = 0 }) (record { number = 0 }) c.in-len2.len_at_least c.in-len2.len_below)) (c.operation_form.ensures N p)

pub returns-in-empty : goal.returns-in-empty
returns-in-empty c = λ N p. empty_nowhere N place_in.Term (placed_of c.args.pool.now) c.args.name.now p c.args.parts.now c.in-empty.len_below

pub returns-in-len3-up : goal.returns-in-len3-up
returns-in-len3-up c = λ N p. several_nowhere N place_in.Term (placed_of c.args.pool.now) c.args.name.now p c.args.parts.now c.in-len3-up.len_at_least
