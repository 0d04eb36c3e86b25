use Rattle.fd_model.proofs.FlatBest.{flat_best}
use Rattle.fd_model.proofs.labelling_laws.flat_best.Goals as goal

pub returns : goal.returns
returns c = flat_best
