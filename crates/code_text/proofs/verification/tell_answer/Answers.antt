use Rattle.wam_code.specs.Area.{area_of, span_of}
use Rattle.code_listing.specs.States.{states_of}
use Rattle.code_text.proofs.Faults.{answer_found}
use Rattle.code_text.proofs.FaultPlaces.{faults_same}
use Rattle.code_text.proofs.verification.tell_answer.Goals as goal

pub returns-in-None : goal.returns-in-None
returns-in-None c = record { found = λ q h. absurd (c.in-None.ensures q h); tells = faults_same (area_of c.args.parts.now) (states_of c.args.states.now) c.args.first.now.place }

pub returns-in-Some : goal.returns-in-Some
returns-in-Some c =
    let n = c.args.number in
    record {
      found = answer_found (area_of c.args.parts.now) (states_of c.args.states.now) n (span_of c.in-Some.query.now) c.in-Some.ensures c.tell_shown.new.first.place c.tell_shown.ensures.found;
      tells = c.tell_shown.ensures.tells n c.in-Some.ensures;
    }
