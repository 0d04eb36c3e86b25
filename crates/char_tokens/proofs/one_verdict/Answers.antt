use Rattle.fd_language.proofs.Lemmas.{one_verdict}
use Rattle.char_tokens.proofs.one_verdict.Goals as goal

pub returns : goal.returns
returns c = one_verdict
