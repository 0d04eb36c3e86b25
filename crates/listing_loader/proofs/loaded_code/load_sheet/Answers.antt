use Rattle.listing_loader.proofs.TextAnswers.{weak_ok}
use Rattle.listing_loader.proofs.loaded_code.load_sheet.Goals as goal

pub returns-clause-good : goal.returns-clause-good
returns-clause-good c = weak_ok c.code_of.result _ (record { numbers = c.in_ok-pool.ensures.right; ranges = c.in_ok-ranges.ensures.ranges.good })
