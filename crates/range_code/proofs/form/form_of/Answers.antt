use Rattle.range_code.proofs.Forms.{differs_form}
use Rattle.range_code.proofs.form.form_of.Goals as goal

pub returns-in-Some-clause-form : goal.returns-in-Some-clause-form
returns-in-Some-clause-form c r e = differs_form c.args.nodes.now c.in-Some.slot c.in-Some.ensures r e
