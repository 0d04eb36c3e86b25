use Rattle.reason_meaning.proofs.FlatOutcomes.{one_outcome}
use Rattle.reason_meaning.proofs.laws.one_outcome.Goals as goal

pub returns : goal.returns
returns c = one_outcome c.one_run.ensures
