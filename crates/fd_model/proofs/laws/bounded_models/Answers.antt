use Rattle.fd_model.proofs.Bounds.{bounded_models}
use Rattle.fd_model.proofs.laws.bounded_models.Goals as goal

pub returns : goal.returns
returns c = bounded_models
