use Rattle.std.proofs.Common.{refl}
use Rattle.wam_code.specs.Area.{area_of}
use Rattle.code_text.proofs.PlaceOwners.{begins_skip}
use Rattle.code_text.proofs.FaultPlaces.{faults_same}
use Rattle.code_text.proofs.owners.put_begin.Goals as goal

pub returns-in-None : goal.returns-in-None
returns-in-None c =
    let a = area_of c.args.parts.now in
    record {
      begins = begins_skip a c.args.number c.args.first.now.place c.args.begins.now.items (λ q h s w. c.in-None.ensures q h);
      tells = λ ss b. faults_same a ss c.args.first.now.place;
      len = refl;
    }
