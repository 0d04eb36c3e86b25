use Rattle.fd_language.proofs.ReadingCompleteness as whole
use Rattle.fd_language.proofs.grammar_laws.one_reading.Goals as goal

pub returns : goal.returns
returns c = whole.one_reading
