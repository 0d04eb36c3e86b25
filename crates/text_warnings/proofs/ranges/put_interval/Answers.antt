use Rattle.std.proofs.Common.{Bool, ◌++◌, subst}
use Rattle.fd_language.specs.PlacedTerm.{place}
use Rattle.term_pool.specs.PlacedTerms.{placed_of}
use Rattle.text_warnings.specs.Warnings.{below_zero, empty_range}
use Rattle.text_warnings.specs.TermParts.{integer_of}
use Rattle.text_warnings.specs.SilentLosses.{below_zero_at, is_falling, warned_if}
use Rattle.text_warnings.specs.WarningViews.{Adds}
use Rattle.text_warnings.proofs.AddedWarnings.{adds_then}
use Rattle.text_warnings.proofs.WarningOrder.{on_ok}
use Rattle.text_warnings.proofs.ranges.put_interval.Goals as goal

pub returns : goal.returns
returns c =
    let pool = c.args.pool.now in
    let r = place (placed_of pool c.args.range) in
    let a = placed_of pool c.args.low in
    let b = placed_of pool c.args.high in
    let falling = warned_if (is_falling (integer_of a) (integer_of b)) r empty_range in
    let old = c.args.warnings.now.items in
    let one = c.warn_if.new.warnings.items in
    let two = c.warn_if-2.new.warnings.items in
    let new = c.warn_if-3.new.warnings.items in
    let low : Adds pool (below_zero_at a) old one =
    subst (λ (t : Bool). Adds pool (warned_if t (place a) below_zero) old one) c.is_negative.ensures c.in_ok-warn_if.ensures in
    let both : Adds pool falling one two =
    subst (λ (t : Bool). Adds pool (warned_if t r empty_range) one two) c.is_falling-falling.ensures c.in_ok-warn_if-2.ensures in
    on_ok c.warn_if-3.result
    (λ (high : Adds pool (warned_if c.is_negative-2.result (place b) below_zero) two new).
    adds_then pool (below_zero_at a) (falling ++ below_zero_at b) old one new low
    (adds_then pool falling (below_zero_at b) one two new both
    (subst (λ (t : Bool). Adds pool (warned_if t (place b) below_zero) two new) c.is_negative-2.ensures high)))
    c.warn_if-3.ensures
