use Rattle.wam_code.specs.Area.{area_of}
use Rattle.code_text.specs.Owners.{IsOwnersPlace}
use Rattle.code_text.proofs.PlaceOwners.{owner_none, owner_told, owner_tells}
use Rattle.code_text.proofs.FaultPlaces.{tell_same}
use Rattle.code_text.proofs.owners.tell_owner.Goals as goal

pub returns-in-None : goal.returns-in-None
returns-in-None c =
    let a = area_of c.args.parts.now in
    record { told = owner_none a c.args.owner c.args.first.now.place c.in-None.is; tells = tell_same (IsOwnersPlace a c.args.owner) c.args.first.now.place }

pub returns-in-Some : goal.returns-in-Some
returns-in-Some c =
    let a = area_of c.args.parts.now in
    record {
      told = owner_told a c.args.owner c.in-Some.number c.tell_number.new.first.place c.in-Some.is c.tell_number.ensures.told;
      tells = owner_tells a c.args.owner c.in-Some.number c.args.first.now.place c.tell_number.new.first.place c.in-Some.is c.tell_number.ensures.tells;
    }
