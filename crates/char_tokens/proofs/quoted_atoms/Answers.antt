use Rattle.fd_language.proofs.Lemmas.{quoted_atoms}
use Rattle.char_tokens.proofs.quoted_atoms.Goals as goal

pub returns : goal.returns
returns c = quoted_atoms
