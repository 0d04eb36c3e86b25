use Rattle.listing_loader.proofs.UniqueFaults.{one_answer}
use Rattle.listing_loader.proofs.laws.one_answer.Goals as goal

pub returns : goal.returns
returns c = one_answer c.one_sheet.ensures c.places_decide.ensures
