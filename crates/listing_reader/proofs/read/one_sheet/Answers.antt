use Rattle.listing_reader.proofs.SheetLines.{one_sheet}
use Rattle.listing_reader.proofs.read.one_sheet.Goals as goal

pub returns : goal.returns
returns c = one_sheet c.quoted_is_read.ensures
