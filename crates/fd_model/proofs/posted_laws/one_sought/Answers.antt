use Rattle.fd_model.proofs.SoughtLeaves.{one_answer}
use Rattle.fd_model.proofs.posted_laws.one_sought.Goals as goal

pub returns : goal.returns
returns c = one_answer
