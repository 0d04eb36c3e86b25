use Rattle.reason_meaning.proofs.FlatOutcomes.{flat_outcomes}
use Rattle.reason_meaning.proofs.laws.flat_outcomes.Goals as goal

pub returns : goal.returns
returns c = flat_outcomes c.flat_events.ensures
