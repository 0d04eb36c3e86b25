use Rattle.std.proofs.Common.{subst}
use Rattle.range_code.specs.Slots.{in_slots}
use Rattle.range_code.specs.Forms.{IsEvaluation}
use Rattle.range_code.proofs.RangeCode.form.Goals as goal

pub returns-clause-form : goal.returns-clause-form
returns-clause-form c = subst (λ r. IsEvaluation (in_slots r) c.self.inside.form) c.self.view_is c.self.invariant.form
