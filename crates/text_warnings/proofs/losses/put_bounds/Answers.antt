use Rattle.term_pool.specs.PlacedTerms.{placed_of}
use Rattle.text_warnings.specs.SilentLosses.{bound_losses}
use Rattle.text_warnings.proofs.AddedWarnings.{adds_then}
use Rattle.text_warnings.proofs.WarningOrder.{on_ok}
use Rattle.text_warnings.proofs.losses.put_bounds.Goals as goal

pub returns : goal.returns
returns c =
    let pool = c.args.pool.now in
    let a = placed_of pool c.args.left in
    let b = placed_of pool c.args.right in
    on_ok c.put_bound-2.result
    (adds_then pool (bound_losses a b) (bound_losses b a) c.args.warnings.now.items c.put_bound.new.warnings.items c.put_bound-2.new.warnings.items c.in_ok-put_bound.ensures)
    c.put_bound-2.ensures
