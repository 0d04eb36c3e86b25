use Rattle.fd_model.proofs.KeptLeaves.{kept_are_leaves}
use Rattle.fd_model.proofs.posted_laws.kept_are_leaves.Goals as goal

pub returns : goal.returns
returns c = kept_are_leaves
