use Rattle.std.proofs.Common.{refl, ◌∙◌, nat_eq}
use Rattle.indexmap.specs.IndexMap.{insert_entry}
use Rattle.linear_forms.proofs.SingleTerms.{variable_kept}
use Rattle.linear_forms.proofs.Words.{passed_sign}
use Rattle.linear_forms.proofs.sums.variable_alone.Goals as goal

pub returns : goal.returns
returns c =
    let sign = passed_sign c.args.negated c.sign.result c.sign.ensures in
    variable_kept _ c.args.negated c.args.variable c.args.first
    (c.in_ok-insert.ensures.entries ∙ (λ i. insert_entry nat_eq (c.new-terms.ensures.empty i) c.args.variable (record { coefficient = sign i; first = c.args.first })))
    c.in_ok-insert.ensures.unique refl
