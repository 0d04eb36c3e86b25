use Rattle.range_code.proofs.Forms.{one_outside}
use Rattle.range_code.proofs.form.outside_form.Goals as goal

pub returns-then-is_one_sum-clause-form : goal.returns-then-is_one_sum-clause-form
returns-then-is_one_sum-clause-form c r h = one_outside r c.args.low c.args.high h (c.is_one_sum.ensures c.if-is_one_sum.true)
