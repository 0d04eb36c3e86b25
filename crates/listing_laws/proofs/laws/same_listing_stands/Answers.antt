use Rattle.listing_laws.proofs.Lemmas.{same_listing}
use Rattle.listing_laws.proofs.laws.same_listing_stands.Goals as goal

pub returns : goal.returns
returns c = record { stands = same_listing }
