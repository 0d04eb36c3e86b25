use Rattle.fd_model.proofs.FlatBest.{flat_best_events}
use Rattle.fd_model.proofs.labelling_laws.flat_best_events.Goals as goal

pub returns : goal.returns
returns c = flat_best_events
