use Rattle.term_reader.proofs.TextOutcomes as readable
use Rattle.term_reader.proofs.laws.each_is_read.Goals as goal

pub returns : goal.returns
returns c = readable.each_is_read
