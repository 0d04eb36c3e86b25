use Rattle.std.proofs.Common.{◌≡◌, ℕ, ap, sym, ◌∙◌}
use Rattle.fd_language.specs.PlacedTerm.{place}
use Rattle.term_pool.specs.PoolInvariant.{shape_of}
use Rattle.term_pool.specs.PlacedTerms.{placed_of, placed_by}
use Rattle.term_reader.proofs.Lemmas.{place_placed}
use Rattle.term_pool.proofs.Lemmas.{placed_of_shape, entry_of}
use Rattle.text_warnings.proofs.terms.look.Goals as goal

pub returns-clause-placed : goal.returns-clause-placed
returns-clause-placed c =
    let pool = c.args.pool.now in
    let t = c.args.t in
    let s = shape_of c.view.result in
    let e = entry_of pool t c.requires in
    let at : place (placed_of pool t) ≡ e.0.place = place_placed pool t e.0.place e.2 in
    placed_of_shape pool c.view.ensures.valid t s e.0.place c.view.ensures.shape e.2 ∙ ap (λ (p : ℕ). placed_by pool.names (placed_of pool) p s) (sym at)
