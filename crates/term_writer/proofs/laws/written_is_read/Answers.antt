use Rattle.term_writer.proofs.Sentences.{written_is_read}
use Rattle.term_writer.proofs.laws.written_is_read.Goals as goal

pub returns : goal.returns
returns c = written_is_read
