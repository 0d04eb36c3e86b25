use Rattle.fd_model.proofs.FirstLeaves.{first_of_best}
use Rattle.fd_model.proofs.posted_laws.first_of_best.Goals as goal

pub returns : goal.returns
returns c = first_of_best
