use Rattle.fd_model.proofs.OrderedLeaves.{in_order}
use Rattle.fd_model.proofs.posted_laws.leaves_in_order.Goals as goal

pub returns : goal.returns
returns c = in_order
