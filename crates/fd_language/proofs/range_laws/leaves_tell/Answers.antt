use Rattle.fd_language.proofs.Leaves.{leaves_tell}
use Rattle.fd_language.proofs.range_laws.leaves_tell.Goals as goal

pub returns : goal.returns
returns c = leaves_tell
