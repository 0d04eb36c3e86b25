use Rattle.fd_model.proofs.AnswerOrder.{answers_differ}
use Rattle.fd_model.proofs.labelling_laws.answers_differ.Goals as goal

pub returns : goal.returns
returns c = answers_differ
