use Rattle.std.proofs.Common.{rules, ◌≡◌, true, inl}
use Rattle.wam_code.specs.Area.{area_of}
use Rattle.code_listing.specs.States.{states_of}
use Rattle.code_text.proofs.FaultPlaces.{faults_same}
use Rattle.code_text.proofs.verification.tell_tables.Goals as goal

pub returns-else-not-has_all_keys : goal.returns-else-not-has_all_keys
returns-else-not-has_all_keys c =
    let t : c.has_all_keys.result ≡ true = search rules in
    record { found = inl (c.has_all_keys.ensures.0 t); tells = faults_same (area_of c.args.parts.now) (states_of c.args.states.now) c.args.first.now.place }
