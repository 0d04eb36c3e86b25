use Rattle.std.proofs.Common.{◌≡◌, ◌∙◌, ◌<◌, suc, length, sym, ap, arith}
use Rattle.std.proofs.lemmas.List.{length-map}
use Rattle.fd_language.specs.Range.{Range}
use Rattle.range_code.specs.Slots.{slots_of}
use Rattle.wam_code.specs.Area.{area_of, range_at}
use Rattle.wam_code.specs.VerifiedCode.{IsRange}
use Rattle.code_text.proofs.PlaceConditions.{not_so, range_read}
use Rattle.code_text.proofs.reference_checks.has_range.Goals as goal

pub returns-then-range-len : goal.returns-then-range-len
returns-then-range-len c = not_so (IsRange (area_of c.args.parts.now) c.args.range c.args.count) (λ x. omega (arith, x.0, length-map c.args.parts.now.ranges.items (λ r. r.value)))

pub returns : goal.returns
returns c =
    let a = area_of c.args.parts.now in
    let rs = c.args.parts.now.ranges.items in
    let r = c.args.range in
    let low : r < length rs = omega arith in
    let there : r < length a.ranges = omega (arith, length-map rs (λ r. r.value)) in
    let is : c.deref.result.now ≡ range_at a r = c.deref.ensures ∙ sym (range_read (λ r. r.value) rs r c.index.result.now low c.index.ensures) in
    (λ t. (there, c.has_slots.ensures.0 t ∙ ap (λ (y : Range). suc (length (slots_of y))) is), λ x. c.has_slots.ensures.1 (x.1 ∙ ap (λ (y : Range). suc (length (slots_of y))) (sym is)))
