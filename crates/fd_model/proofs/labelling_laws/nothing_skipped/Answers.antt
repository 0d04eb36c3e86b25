use Rattle.fd_model.proofs.AnswerOrder.{nothing_skipped}
use Rattle.fd_model.proofs.labelling_laws.nothing_skipped.Goals as goal

pub returns : goal.returns
returns c = nothing_skipped
