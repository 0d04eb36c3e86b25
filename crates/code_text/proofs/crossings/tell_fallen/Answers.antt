use Rattle.std.proofs.Common.{◌≡◌, ◌+◌, true, false, IsTrue, sym, ◌∙◌}
use Rattle.wam_code.specs.Area.{area_of}
use Rattle.wam_code.specs.VerifiedCode.{goes_on}
use Rattle.code_text.specs.Owners.{IsCrossed}
use Rattle.code_text.proofs.FaultPlaces.{tell_same, tells_as}
use Rattle.code_text.proofs.crossings.tell_fallen.Goals as goal

pub returns-then-goes_on : goal.returns-then-goes_on
returns-then-goes_on c =
    let a = area_of c.args.parts.now in
    let own = c.args.owners.now in
    let at = c.args.at in
    let goes : goes_on c.args.code ≡ true = sym c.goes_on.ensures ∙ c.if-goes_on.true in
    record {
      crossing = λ t. c.tell_crossing.ensures.crossing;
      tells = tells_as (IsCrossed a own at (at + 1)) (λ p. IsTrue (goes_on c.args.code) × IsCrossed a own at (at + 1) p) c.args.first.now.place
          c.tell_crossing.new.first.place (λ p z. (goes, z)) c.tell_crossing.ensures.tells;
    }

pub returns-else-goes_on : goal.returns-else-goes_on
returns-else-goes_on c =
    let a = area_of c.args.parts.now in
    record {
      crossing = λ t. absurd (let e : false ≡ true = sym c.if-goes_on.false ∙ c.goes_on.ensures ∙ t in cc (e));
      tells = tell_same (λ p. IsTrue (goes_on c.args.code) × IsCrossed a c.args.owners.now c.args.at (c.args.at + 1) p) c.args.first.now.place;
    }
