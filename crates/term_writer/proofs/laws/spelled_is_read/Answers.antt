use Rattle.term_writer.proofs.Derivations.{spelled_is_read}
use Rattle.term_writer.proofs.laws.spelled_is_read.Goals as goal

pub returns : goal.returns
returns c = spelled_is_read
