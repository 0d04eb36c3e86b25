use Rattle.fd_language.proofs.ReadingLaws.{one_verdict_of_reading}
use Rattle.fd_language.proofs.grammar_laws.one_verdict.Goals as goal

pub returns : goal.returns
returns c = one_verdict_of_reading
