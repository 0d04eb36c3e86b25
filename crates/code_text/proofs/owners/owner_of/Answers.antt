use Rattle.std.proofs.Common.{◌≡◌, ℕ, Some, None, refl, sym, ◌∙◌}
use Rattle.wam_code.specs.Area.{area_of}
use Rattle.code_text.specs.Owners.{IsOwnersPlace}
use Rattle.code_text.proofs.FaultPlaces.{tell_same, tells_as}
use Rattle.code_text.proofs.owners.owner_of.Goals as goal

pub returns-in-None : goal.returns-in-None
returns-in-None c = record {
  begun = λ n e. absurd (let f : None ≡ Some n = sym c.in-None.is ∙ e in cc (f));
  stays = λ e. refl;
  told = λ n e. absurd (let f : None ≡ Some n = sym c.in-None.is ∙ e in cc (f));
  tells = tell_same (λ p. ((n : ℕ) × (c.args.begun ≡ Some n)) × IsOwnersPlace (area_of c.args.parts.now) c.args.stays p) c.args.first.now.place;
}

pub returns-in-Some : goal.returns-in-Some
returns-in-Some c =
    let a = area_of c.args.parts.now in
    record {
      begun = λ n e. sym c.in-Some.is ∙ e;
      stays = λ e. absurd (let f : None ≡ Some c.in-Some.number = sym e ∙ c.in-Some.is in cc (f));
      told = λ n e. c.tell_owner.ensures.told;
      tells = tells_as (IsOwnersPlace a c.args.stays) (λ p. ((n : ℕ) × (c.args.begun ≡ Some n)) × IsOwnersPlace a c.args.stays p) c.args.first.now.place
          c.tell_owner.new.first.place (λ p z. ((c.in-Some.number, c.in-Some.is), z)) c.tell_owner.ensures.tells;
    }
