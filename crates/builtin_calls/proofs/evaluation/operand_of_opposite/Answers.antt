use Rattle.std.proofs.Common.{not, ap, refl, sym, ◌∙◌, arith}
use Rattle.builtin_calls.proofs.Evaluations.{no_opposite, too_many}
use Rattle.builtin_calls.proofs.evaluation.operand_of_opposite.Goals as goal

pub returns-else-is_minus : goal.returns-else-is_minus
returns-else-is_minus c = (refl, no_opposite c.args.name.now c.args.args.now c.in-len1.len_at_least c.in-len1.len_below (ap not (sym c.is_minus.ensures ∙ c.if-is_minus.false)))

pub returns-in_default-2 : goal.returns-in_default-2
returns-in_default-2 c = (refl, too_many c.args.name.now c.args.args.now (omega (arith, c.in_default.len_at_least, c.requires)))
