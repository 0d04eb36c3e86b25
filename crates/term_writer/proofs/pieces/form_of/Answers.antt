use Rattle.std.proofs.Common.{List, sym, subst}
use Rattle.std.proofs.Common.{◌∙◌}
use Rattle.term_pool.specs.declared.TermId.{TermId}
use Rattle.term_writer.specs.Pieces.{IsCompoundForm}
use Rattle.term_pool.proofs.Lemmas.{two_parts}
use Rattle.term_writer.proofs.Forms.{call_none, call_one, call_more}
use Rattle.term_writer.proofs.pieces.form_of.Goals as goal

pub returns-else-eq : goal.returns-else-eq
returns-else-eq c = call_one c.args.name.now c.args.parts.now (sym c.eq.ensures ∙ c.if-eq.false) c.in-len1.len_at_least c.in-len1.len_below

pub returns-in-len2 : goal.returns-in-len2
returns-in-len2 c =
    subst (λ (ts : List TermId). IsCompoundForm c.args.name.now ts c.pair_form.result)
    (sym (two_parts c.args.parts.now (record { number = 0 }) (record { number = 0 }) c.in-len2.len_at_least c.in-len2.len_below)) c.pair_form.ensures

pub returns-in-empty : goal.returns-in-empty
returns-in-empty c = call_none c.args.name.now c.args.parts.now c.in-empty.len_below

pub returns-in-len3-up : goal.returns-in-len3-up
returns-in-len3-up c = call_more c.args.name.now c.args.parts.now c.in-len3-up.len_at_least
