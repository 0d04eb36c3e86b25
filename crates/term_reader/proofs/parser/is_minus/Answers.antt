use Rattle.fd_language.specs.Terminals.{is_minus}
use Rattle.term_reader.proofs.parser.is_minus.Goals as goal

pub returns : goal.returns
unfolding is_minus
returns c = c.eq.ensures
