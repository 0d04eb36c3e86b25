use Rattle.fd_language.proofs.VerdictLaw.{verdict_agrees}
use Rattle.fd_language.proofs.check_laws.verdict_agrees.Goals as goal

pub returns : goal.returns
returns c = verdict_agrees
