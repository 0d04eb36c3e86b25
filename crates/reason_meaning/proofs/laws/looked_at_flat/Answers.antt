use Rattle.reason_meaning.proofs.LookedAt.{looked_at_flat}
use Rattle.reason_meaning.proofs.laws.looked_at_flat.Goals as goal

pub returns : goal.returns
returns c = looked_at_flat
