use Rattle.fd_model.proofs.BestLeaves.{best_answers}
use Rattle.fd_model.proofs.labelling_laws.best_answers.Goals as goal

pub returns : goal.returns
returns c = best_answers
