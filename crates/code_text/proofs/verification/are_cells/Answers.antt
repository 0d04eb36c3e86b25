use Rattle.std.proofs.Common.{rules, ◌≡◌, ◌∙◌, ◌<◌, IsTrue, false, true, sym, map, slice_get, below_more}
use Rattle.wam_code.specs.Effect.{is_cell}
use Rattle.code_listing.specs.States.{slot_of}
use Rattle.code_text.specs.LocalConditions.{AreCells}
use Rattle.code_text.proofs.PlaceConditions.{not_so}
use Rattle.code_text.proofs.verification.are_cells.Goals as goal

pub loop-index-preserved : goal.loop-index-preserved
loop-index-preserved c =
    let t : c.holds_cell.result ≡ true = search rules in
    below_more (λ n. IsTrue (is_cell (slice_get (map slot_of c.args.slots.now) n))) c.loop-index.index c.loop-index.invariant (sym c.holds_cell.ensures ∙ t)

pub returns-then-not-holds_cell : goal.returns-then-not-holds_cell
returns-then-not-holds_cell c =
    let f : c.holds_cell.result ≡ false = search rules in
    let low : c.loop-index.index < c.args.count = search rules in
    not_so (AreCells c.args.count (map slot_of c.args.slots.now)) (λ x. (let e : false ≡ true = sym f ∙ c.holds_cell.ensures ∙ x c.loop-index.index low in cc (e)))
