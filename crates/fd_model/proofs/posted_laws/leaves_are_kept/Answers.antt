use Rattle.fd_model.proofs.KeptLeaves.{leaves_are_kept}
use Rattle.fd_model.proofs.posted_laws.leaves_are_kept.Goals as goal

pub returns : goal.returns
returns c = leaves_are_kept
