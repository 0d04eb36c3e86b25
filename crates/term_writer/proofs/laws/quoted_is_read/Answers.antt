use Rattle.term_writer.proofs.QuotedNames.{token_of, name_of}
use Rattle.term_writer.proofs.laws.quoted_is_read.Goals as goal

pub returns : goal.returns
returns c = record { token = token_of; name = name_of }
