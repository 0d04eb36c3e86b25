use Rattle.std.proofs.Common.{rules, ℕ, ◌≡◌, ◌∙◌, true, false, sym}
use Rattle.fd_language.specs.Family.{has}
use Rattle.wam_code.specs.Area.{area_of}
use Rattle.code_text.specs.declared.place_predecessors.Namers.TheVariants.{One}
use Rattle.wam_code.specs.VerifiedCode.{Falls}
use Rattle.code_text.specs.Places.{FitsOther}
use Rattle.code_text.proofs.PlaceConditions.{other_fits, other_back, not_so, failed}
use Rattle.range_code.proofs.Lemmas.{any_has}
use Rattle.code_text.proofs.places.fits_other.Goals as goal

pub returns-then-not-has_one : goal.returns-then-not-has_one
returns-then-not-has_one c =
    let a = area_of c.args.parts.now in
    let r = c.args.reach.now in
    let at = c.args.at in
    let f : c.has_one.result ≡ false = search rules in
    not_so (FitsOther a at) (λ x. failed c.has_one.result (c.namers_of.result ≡ One) c.has_one.ensures f (c.namers_of.ensures ∙ (other_back a at c.requires.within r c.requires.reach x).0))

pub returns-then-contains : goal.returns-then-contains
returns-then-contains c =
    let a = area_of c.args.parts.now in
    let r = c.args.reach.now in
    let at = c.args.at in
    let t : has r.plain.keys at ≡ true = sym (any_has r.plain.keys at) ∙ sym c.contains.ensures ∙ c.if-contains.true in
    not_so (FitsOther a at) (λ x. (other_back a at c.requires.within r c.requires.reach x).1.0 t)

pub returns-then-falls_from_before : goal.returns-then-falls_from_before
returns-then-falls_from_before c =
    let a = area_of c.args.parts.now in
    let r = c.args.reach.now in
    let at = c.args.at in
    not_so (FitsOther a at) (λ x. (other_back a at c.requires.within r c.requires.reach x).1.1.0 (c.falls_from_before.ensures.0 c.if-falls_from_before.true))

pub returns : goal.returns
returns c =
    let a = area_of c.args.parts.now in
    let r = c.args.reach.now in
    let at = c.args.at in
    let one : c.has_one.result ≡ true = search rules in
    let plain : ¬ (has r.plain.keys at ≡ true) = λ t. (let e : false ≡ true = sym c.if-contains.false ∙ c.contains.ensures ∙ any_has r.plain.keys at ∙ t in cc (e)) in
    let falls : ¬ ((from : ℕ) × Falls a from at) = λ x. (let e : false ≡ true = sym c.if-falls_from_before.false ∙ c.falls_from_before.ensures.1 x in cc (e)) in (
      λ t. other_fits a at c.requires.within r c.requires.reach (sym c.namers_of.ensures ∙ c.has_one.ensures.0 one, (plain, (falls, c.is_no_start.ensures.0 t))),
      λ f. c.is_no_start.ensures.1 (other_back a at c.requires.within r c.requires.reach f).1.1.1,
    )
