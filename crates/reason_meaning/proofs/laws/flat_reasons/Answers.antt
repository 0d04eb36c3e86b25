use Rattle.reason_meaning.proofs.FlatOutcomes.{flat_reasons}
use Rattle.reason_meaning.proofs.laws.flat_reasons.Goals as goal

pub returns : goal.returns
returns c = flat_reasons c.flat_outcomes.ensures
