use Rattle.std.proofs.Common.{◌≡◌, refl, ◌∙◌, length}
use Rattle.std.proofs.lemmas.Option.{slice_get_read}
use Rattle.wam_code.specs.Area.{Holds, area_of}
use Rattle.wam_code.specs.VerifiedCode.{named}
use Rattle.code_text.proofs.CrossingFaults.{crossings_are, crossings_fail}
use Rattle.code_text.proofs.crossings.tell_crossings.Goals as goal

pub returns : goal.returns
returns c =
    let a = area_of c.args.parts.now in
    let own = c.args.owners.now in
    let at = c.args.at in
    let i = c.index-code.result.now in
    let h : Holds a at i = slice_get_read a.code (length a.code) at i refl c.requires c.index-code.ensures in
    let ns = c.deref.result.now in
    let is : ns ≡ named a i = c.deref.ensures.value ∙ c.in_ok-named.ensures in
    let old = c.args.first.now.place in
    let one = c.tell_named.new.first.place in
    let two = c.tell_fallen.new.first.place in
    let new = c.tell_leaving.new.first.place in
    let second = c.tell_fallen.ensures.tells.kept in
    let third = c.tell_leaving.ensures.tells.kept in
    record {
      crossings = crossings_are a own at i h ns is old one two new (λ p t. third p (second p t)) third c.tell_named.ensures.crossings c.tell_fallen.ensures.crossing c.tell_leaving.ensures.told;
      tells = λ ss o. crossings_fail a own at i h ns is old one two new (λ p t. third p (second p t)) third ss o c.tell_named.ensures.tells c.tell_fallen.ensures.tells c.tell_leaving.ensures.tells;
    }
