use Rattle.std.proofs.Common.{Bool, subst}
use Rattle.fd_language.specs.PlacedTerm.{place}
use Rattle.term_pool.specs.PlacedTerms.{placed_of}
use Rattle.text_warnings.specs.Warnings.{unevaluated}
use Rattle.text_warnings.specs.SilentLosses.{side_losses, warned_if}
use Rattle.text_warnings.specs.WarningViews.{Adds}
use Rattle.text_warnings.proofs.AddedWarnings.{adds_then}
use Rattle.text_warnings.proofs.WarningOrder.{on_ok}
use Rattle.text_warnings.proofs.losses.put_sides.Goals as goal

pub returns : goal.returns
returns c =
    let pool = c.args.pool.now in
    let a = placed_of pool c.args.left in
    let b = placed_of pool c.args.right in
    let old = c.args.warnings.now.items in
    let mid = c.warn_if.new.warnings.items in
    let new = c.warn_if-2.new.warnings.items in
    let left : Adds pool (side_losses a) old mid =
    subst (λ (t : Bool). Adds pool (warned_if t (place a) unevaluated) old mid) c.is_arithmetic-sum.ensures c.in_ok-warn_if.ensures in
    on_ok c.warn_if-2.result
    (λ (right : Adds pool (warned_if c.is_arithmetic-sum-2.result (place b) unevaluated) mid new).
    adds_then pool (side_losses a) (side_losses b) old mid new left
    (subst (λ (t : Bool). Adds pool (warned_if t (place b) unevaluated) mid new) c.is_arithmetic-sum-2.ensures right))
    c.warn_if-2.ensures
