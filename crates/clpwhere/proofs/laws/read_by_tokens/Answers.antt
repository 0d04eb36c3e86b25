use Rattle.clpwhere.proofs.BeforePlace.{read_by_tokens}
use Rattle.clpwhere.proofs.laws.read_by_tokens.Goals as goal

pub returns : goal.returns
returns c = read_by_tokens
