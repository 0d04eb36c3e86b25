use Rattle.std.proofs.Common.{◌≡◌, true, false, IsTrue, sym, subst, ◌∙◌}
use Rattle.wam_code.specs.Area.{area_of}
use Rattle.code_text.specs.Owners.{IsOwnersPlace, IsOwnerTold, leaves, owner_at}
use Rattle.code_text.proofs.FaultPlaces.{tell_same, tells_as}
use Rattle.code_text.proofs.crossings.tell_leaving.Goals as goal

pub returns-then-is_leaving : goal.returns-then-is_leaving
returns-then-is_leaving c =
    let a = area_of c.args.parts.now in
    let own = c.args.owners.now in
    let at = c.args.at in
    let is : leaves c.args.code ≡ true = sym c.is_leaving.ensures ∙ c.if-is_leaving.true in
    record {
      told = λ t. subst (λ o. IsOwnerTold a o c.tell_owner.new.first.place) c.owner_at.ensures c.tell_owner.ensures.told;
      tells = tells_as (IsOwnersPlace a c.owner_at.result) (λ p. IsTrue (leaves c.args.code) × IsOwnersPlace a (owner_at own at) p) c.args.first.now.place
          c.tell_owner.new.first.place (λ p z. (is, subst (λ o. IsOwnersPlace a o p) c.owner_at.ensures z)) c.tell_owner.ensures.tells;
    }

pub returns-else-is_leaving : goal.returns-else-is_leaving
returns-else-is_leaving c =
    let a = area_of c.args.parts.now in
    record {
      told = λ t. absurd (let e : false ≡ true = sym c.if-is_leaving.false ∙ c.is_leaving.ensures ∙ t in cc (e));
      tells = tell_same (λ p. IsTrue (leaves c.args.code) × IsOwnersPlace a (owner_at c.args.owners.now c.args.at) p) c.args.first.now.place;
    }
