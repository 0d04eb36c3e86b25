use Rattle.code_listing.specs.Listing.{sheet_of}
use Rattle.listing_reader.specs.Sheets.{sheet_in}
use Rattle.listing_loader.proofs.UniqueFaults.{held_told}
use Rattle.listing_loader.proofs.TextAnswers.{its_listing, its_fault, its_code}
use Rattle.listing_loader.proofs.loaded_code.load.Goals as goal

pub returns-in-Ok-clause-listing : goal.returns-in-Ok-clause-listing
returns-in-Ok-clause-listing c = its_listing c.args.text.now (sheet_in c.in-Ok.sheet) c.in-Ok.ensures.sheet c.load_sheet.result c.load_sheet.ensures.code c.load_sheet.ensures.good

pub returns-in-Ok-clause-fault : goal.returns-in-Ok-clause-fault
returns-in-Ok-clause-fault c = its_fault c.args.text.now (sheet_in c.in-Ok.sheet) c.in-Ok.ensures.sheet c.load_sheet.result c.load_sheet.ensures.fault

pub returns-in-Ok-clause-known : goal.returns-in-Ok-clause-known
returns-in-Ok-clause-known c = λ l held is.
    its_code c.args.text.now (sheet_in c.in-Ok.sheet) c.in-Ok.ensures.sheet c.places_decide.ensures c.load_sheet.result c.load_sheet.ensures.code
    c.load_sheet.ensures.good c.load_sheet.ensures.fault l held is
    (c.in-Ok.ensures.known (sheet_of l.area l.states) (held_told c.args.text.now l held is))

pub returns-in-Err-BadLine-clause-known : goal.returns-in-Err-BadLine-clause-known
returns-in-Err-BadLine-clause-known c = λ l held is.
    let e = c.in-Err-BadLine.ensures.known (sheet_of l.area l.states) (held_told c.args.text.now l held is) in absurd (cc (e))
