use Rattle.reason_meaning.proofs.FlatTold.{flat_told}
use Rattle.reason_meaning.proofs.laws.flat_told.Goals as goal

pub returns : goal.returns
returns c = flat_told c.flat_reasons.ensures
