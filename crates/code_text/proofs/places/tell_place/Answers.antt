use Rattle.std.proofs.Common.{rules, ◌≡◌, true, false, inl, inr}
use Rattle.wam_code.specs.Area.{area_of}
use Rattle.code_text.specs.Places.{FitsPlace}
use Rattle.code_listing.specs.States.{states_of}
use Rattle.code_text.proofs.Faults.{place_fault}
use Rattle.code_text.proofs.PlaceConditions.{failed}
use Rattle.code_text.proofs.FaultPlaces.{faults_same}
use Rattle.code_text.proofs.places.tell_place.Goals as goal

pub returns-in_err-is_right-clause-tells : goal.returns-in_err-is_right-clause-tells
returns-in_err-is_right-clause-tells c = faults_same (area_of c.args.parts.now) (states_of c.args.states.now) c.args.first.now.place

pub returns-then-not-is_right : goal.returns-then-not-is_right
returns-then-not-is_right c =
    let a = area_of c.args.parts.now in
    let ss = states_of c.args.states.now in
    let f : c.in_ok-is_right.is_right ≡ false = search rules in
    record {
      found = inr c.tell.ensures.told;
      tells = place_fault a ss c.args.first.now.place c.tell.new.self.place c.args.at (failed c.in_ok-is_right.is_right (FitsPlace a ss c.args.at) c.in_ok-is_right.ensures f) c.tell.ensures.tells;
    }

pub returns-else-not-is_right : goal.returns-else-not-is_right
returns-else-not-is_right c =
    let t : c.in_ok-is_right.is_right ≡ true = search rules in
    record { found = inl (c.in_ok-is_right.ensures.0 t); tells = faults_same (area_of c.args.parts.now) (states_of c.args.states.now) c.args.first.now.place }
