use Rattle.std.proofs.Common.{ap, ◌∙◌, rules, FitsSigned}
use Rattle.std.specs.Int.{w64, int_wrapping_neg}
use Rattle.std.proofs.lemmas.Int.{to_z-of_z}
use Rattle.constraint_expand.proofs.RowPosts.{wrapped_negation}
use Rattle.constraint_expand.proofs.rows.turned_constant.Goals as goal

pub returns : goal.returns
returns c = λ h.
    let fits : FitsSigned w64 c.wrapping_neg.result = search rules in
    to_z-of_z w64 c.wrapping_neg.result fits ∙ c.wrapping_neg.ensures
    ∙ ap (int_wrapping_neg w64) (to_z-of_z w64 c.args.constant c.ranges.constant) ∙ wrapped_negation c.args.constant c.ranges.constant h
