use Rattle.std.proofs.Common.{refl}
use Rattle.wam_code.specs.Area.{area_of}
use Rattle.wam_code.specs.VerifiedCode.{is_other, is_behind, HoldsOne}
use Rattle.code_text.proofs.PlaceConditions.{before_other, before_behind, before_none, other_of_before, behind_of_before, failed}
use Rattle.code_text.proofs.places.fits_before.Goals as goal

pub returns-then-holds_other : goal.returns-then-holds_other
returns-then-holds_other c =
    let a = area_of c.args.parts.now in
    let at = c.args.at in
    let o = c.holds_other.ensures.0 c.if-holds_other.true in
    (λ t. before_other a at o (c.fits_other.ensures.0 t), λ f. c.fits_other.ensures.1 (other_of_before a at o f))

pub returns-then-holds_behind : goal.returns-then-holds_behind
returns-then-holds_behind c =
    let a = area_of c.args.parts.now in
    let at = c.args.at in
    let b = c.holds_behind.ensures.0 c.if-holds_behind.true in
    (λ t. before_behind a at b (c.fits_behind.ensures.0 t), λ f. c.fits_behind.ensures.1 (behind_of_before a at b f))

pub returns-else-holds_behind : goal.returns-else-holds_behind
returns-else-holds_behind c =
    let a = area_of c.args.parts.now in
    let at = c.args.at in
    let o = failed c.holds_other.result (HoldsOne a is_other at) c.holds_other.ensures c.if-holds_other.false in
    let b = failed c.holds_behind.result (HoldsOne a is_behind at) c.holds_behind.ensures c.if-holds_behind.false in
    (λ t. before_none a at o b, λ f. refl)
