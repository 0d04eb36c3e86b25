use Rattle.std.proofs.Common.{IsTrue}
use Rattle.code_listing.specs.Sheets.{fits_switch}
use Rattle.code_text.proofs.ListPrefixes.{AllBelow}
use Rattle.code_text.proofs.reference_checks.fits_rows.Given as goal

abbrev pub invariant-loop-index : goal.invariant-loop-index
invariant-loop-index l = AllBelow (λ row. IsTrue (fits_switch l.code row.0)) l.rows l.index
