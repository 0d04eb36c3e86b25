use Rattle.std.proofs.Common.{refl}
use Rattle.fd_model.specs.declared.Status.TheVariants.{Refused}
use Rattle.fd_model.specs.Output.{refusal}
use Rattle.answer_text.specs.Reasons.{reason_text}
use Rattle.clpcode.proofs.run.refuse_text.Goals as goal

pub returns : goal.returns
returns g c = c.answer.ensures.output (refusal c.args.place (reason_text c.args.pool c.args.reason)) Refused (refl, refl)
