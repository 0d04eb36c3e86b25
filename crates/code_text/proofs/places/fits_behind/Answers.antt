use Rattle.std.proofs.Common.{rules, ◌≡◌, ◌∙◌, true, false, sym}
use Rattle.fd_language.specs.Family.{has}
use Rattle.wam_code.specs.Area.{area_of}
use Rattle.code_text.specs.declared.place_predecessors.Namers.TheVariants.{Nobody}
use Rattle.code_text.specs.Places.{FitsBehind}
use Rattle.code_text.proofs.PlaceConditions.{behind_fits, behind_back, not_so, failed}
use Rattle.range_code.proofs.Lemmas.{any_has}
use Rattle.code_text.proofs.places.fits_behind.Goals as goal

pub returns-then-not-stands_behind : goal.returns-then-not-stands_behind
returns-then-not-stands_behind c =
    let a = area_of c.args.parts.now in
    let r = c.args.reach.now in
    let at = c.args.at in
    let f : c.stands_behind.result ≡ false = search rules in
    not_so (FitsBehind a at) (λ x. (let e : false ≡ true = sym f ∙ c.stands_behind.ensures.1 (behind_back a at c.requires.within r c.requires.reach x).0 in cc (e)))

pub returns-then-not-has_none : goal.returns-then-not-has_none
returns-then-not-has_none c =
    let a = area_of c.args.parts.now in
    let r = c.args.reach.now in
    let at = c.args.at in
    let f : c.has_none.result ≡ false = search rules in
    not_so (FitsBehind a at) (λ x. failed c.has_none.result (c.namers_of.result ≡ Nobody) c.has_none.ensures f (c.namers_of.ensures ∙ (behind_back a at c.requires.within r c.requires.reach x).1.0))

pub returns-then-contains : goal.returns-then-contains
returns-then-contains c =
    let a = area_of c.args.parts.now in
    let r = c.args.reach.now in
    let at = c.args.at in
    let t : has r.plain.keys at ≡ true = sym (any_has r.plain.keys at) ∙ sym c.contains.ensures ∙ c.if-contains.true in
    not_so (FitsBehind a at) (λ x. (behind_back a at c.requires.within r c.requires.reach x).1.1.0 t)

pub returns : goal.returns
returns c =
    let a = area_of c.args.parts.now in
    let r = c.args.reach.now in
    let at = c.args.at in
    let stands : c.stands_behind.result ≡ true = search rules in
    let none : c.has_none.result ≡ true = search rules in
    let plain : ¬ (has r.plain.keys at ≡ true) = λ t. (let e : false ≡ true = sym c.if-contains.false ∙ c.contains.ensures ∙ any_has r.plain.keys at ∙ t in cc (e)) in (
      λ t. behind_fits a at c.requires.within r c.requires.reach (
        c.stands_behind.ensures.0 stands,
        (sym c.namers_of.ensures ∙ c.has_none.ensures.0 none, (plain, c.is_no_start.ensures.0 t)),
      ),
      λ f. c.is_no_start.ensures.1 (behind_back a at c.requires.within r c.requires.reach f).1.1.1,
    )
