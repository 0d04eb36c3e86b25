use Rattle.std.proofs.Common.{rules, ◌≡◌, ◌∙◌, IsTrue, false, true, sym}
use Rattle.code_listing.specs.Sheets.{fits_switch}
use Rattle.code_text.proofs.ListPrefixes.{all_start, all_more, all_done, all_miss}
use Rattle.code_text.proofs.reference_checks.fits_rows.Goals as goal

pub loop-index-init : goal.loop-index-init
loop-index-init c = all_start (λ row. IsTrue (fits_switch c.args.code row.0)) c.args.rows.now

pub loop-index-preserved : goal.loop-index-preserved
loop-index-preserved c =
    let t : c.fits_switch.result ≡ true = search rules in
    all_more (λ row. IsTrue (fits_switch c.args.code row.0)) c.args.rows.now c.loop-index.index _ c.loop-index.invariant (sym c.fits_switch.ensures ∙ t)

pub returns-then-not-fits_switch : goal.returns-then-not-fits_switch
returns-then-not-fits_switch c =
    let f : c.fits_switch.result ≡ false = search rules in
    all_miss (λ row. IsTrue (fits_switch c.args.code row.0)) c.args.rows.now c.loop-index.index _ (search rules) (λ x. (let e : false ≡ true = sym f ∙ c.fits_switch.ensures ∙ x in cc (e)))

pub returns : goal.returns
returns c = all_done (λ row. IsTrue (fits_switch c.args.code row.0)) c.args.rows.now c.loop-index.index c.loop-index-test.false c.loop-index.invariant
