use Rattle.std.proofs.Common.{rules, ◌≡◌, true, false, inl, inr}
use Rattle.wam_code.specs.Area.{area_of, span_of}
use Rattle.code_text.specs.LocalConditions.{FitsAlone}
use Rattle.code_listing.specs.States.{states_of}
use Rattle.code_text.proofs.Faults.{alone_fault, alone_found}
use Rattle.code_text.proofs.PlaceConditions.{failed}
use Rattle.code_text.proofs.FaultPlaces.{faults_same}
use Rattle.code_text.proofs.verification.tell_query.Goals as goal

pub returns-in-None : goal.returns-in-None
returns-in-None c = record { found = λ q h. absurd (c.in-None.ensures q h); tells = faults_same (area_of c.args.parts.now) (states_of c.args.states.now) c.args.first.now.place }

pub returns-then-not-fits_alone : goal.returns-then-not-fits_alone
returns-then-not-fits_alone c =
    let a = area_of c.args.parts.now in
    let ss = states_of c.args.states.now in
    let n = c.args.number in
    let q = span_of c.in-Some.query.now in
    let f : c.fits_alone.result ≡ false = search rules in
    record {
      found = alone_found a ss n q c.in-Some.ensures c.tell.new.self.place (inr c.tell.ensures.told);
      tells = alone_fault a ss n q c.in-Some.ensures c.args.first.now.place c.tell.new.self.place (failed c.fits_alone.result (FitsAlone a ss q) c.fits_alone.ensures f) c.tell.ensures.tells;
    }

pub returns-else-not-fits_alone : goal.returns-else-not-fits_alone
returns-else-not-fits_alone c =
    let a = area_of c.args.parts.now in
    let ss = states_of c.args.states.now in
    let t : c.fits_alone.result ≡ true = search rules in
    record {
      found = alone_found a ss c.args.number (span_of c.in-Some.query.now) c.in-Some.ensures c.args.first.now.place (inl (c.fits_alone.ensures.0 t));
      tells = faults_same a ss c.args.first.now.place;
    }
