use Rattle.fd_language.specs.PlacedTerm.{place}
use Rattle.term_pool.specs.PlacedTerms.{placed_of}
use Rattle.term_reader.proofs.Lemmas.{place_placed}
use Rattle.text_warnings.proofs.AddedWarnings.{adds_where}
use Rattle.text_warnings.proofs.ranges.warn_if.Goals as goal

pub returns-in_ok-push : goal.returns-in_ok-push
returns-in_ok-push c =
    let pool = c.args.pool.now in
    let at = place_placed pool c.args.t c.place-place.result c.place-place.ensures.place in
    adds_where pool c.args.test (record { place = c.place-place.result; concern = c.args.concern }) (place (placed_of pool c.args.t)) c.args.warnings.now.items c.push.new.self.items
    c.if-test.true at c.requires.concern c.in_ok-push.ensures.items
