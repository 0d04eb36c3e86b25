use Rattle.std.proofs.Common.{◌↔◌, ◌<◌, ℕ, List, All, IsTrue, length, subst, arith}
use Rattle.std.proofs.lemmas.List.{length-map}
use Rattle.wam_code.specs.declared.instruction.Key.{Key}
use Rattle.wam_code.specs.Area.{area_of, table_at}
use Rattle.wam_code.specs.VerifiedCode.{IsTable}
use Rattle.code_listing.specs.Sheets.{fits_switch}
use Rattle.code_text.proofs.PlaceConditions.{not_so}
use Rattle.code_text.proofs.reference_checks.has_table.Goals as goal

pub returns-then-table-len : goal.returns-then-table-len
returns-then-table-len c = not_so (IsTable (area_of c.args.parts.now) (fits_switch c.args.code) c.args.table) (λ x. omega (arith, x.0, length-map c.args.parts.now.tables.items (λ t. t.items)))

pub returns : goal.returns
returns c =
    let a = area_of c.args.parts.now in
    let low : c.args.table < length a.tables = omega (arith, length-map c.args.parts.now.tables.items (λ t. t.items)) in
    let fits : IsTrue c.fits_rows.result ↔ All (λ row. IsTrue (fits_switch c.args.code row.0)) (table_at a c.args.table) = subst
    (λ (rows : List (Key × ℕ)). IsTrue c.fits_rows.result ↔ All (λ row. IsTrue (fits_switch c.args.code row.0)) rows) c.table_at.ensures
    c.fits_rows.ensures in
    (λ t. (low, fits.0 t), λ x. fits.1 x.1)
