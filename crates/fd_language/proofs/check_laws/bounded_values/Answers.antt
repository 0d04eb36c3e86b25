use Rattle.fd_language.proofs.Limits.{bounded_values}
use Rattle.fd_language.proofs.check_laws.bounded_values.Goals as goal

pub returns : goal.returns
returns c = bounded_values
