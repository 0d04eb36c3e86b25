use Rattle.std.proofs.Common.{ℕ, ◌<◌, ◌⊎◌}
use Rattle.wam_code.specs.Area.{area_of}
use Rattle.code_text.specs.Places.{FitsPlace}
use Rattle.code_listing.specs.States.{states_of}
use Rattle.code_text.specs.FaultPlaces.{IsTold, TellsFaults}
use Rattle.code_text.proofs.places.tell_places.Given as goal

abbrev pub invariant-loop-at : goal.invariant-loop-at
invariant-loop-at l = record {
  found : (at : ℕ) → at < l.at → FitsPlace (area_of l.parts) (states_of l.states) at ⊎ IsTold l.first.place at;
  tells : TellsFaults (area_of l.parts) (states_of l.states) l.initial.first.place l.first.place;
}
