use Rattle.fd_model.proofs.SoughtLeaves.{best_cost}
use Rattle.fd_model.proofs.posted_laws.best_cost.Goals as goal

pub returns : goal.returns
returns c = best_cost
