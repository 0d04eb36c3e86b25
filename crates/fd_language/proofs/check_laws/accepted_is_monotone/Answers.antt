use Rattle.fd_language.proofs.Monotone.{accepted_is_monotone}
use Rattle.fd_language.proofs.check_laws.accepted_is_monotone.Goals as goal

pub returns : goal.returns
returns c = accepted_is_monotone
