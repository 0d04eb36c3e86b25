use Rattle.std.proofs.Common.{ℕ, ◌<◌, List}
use Rattle.wam_code.specs.Area.{State, area_of}
use Rattle.code_text.specs.FaultPlaces.{TellsFaults}
use Rattle.code_text.specs.Owners.{AreCrossings}
use Rattle.code_text.proofs.crossings.tell_all_crossings.Given as goal

abbrev pub invariant-loop-at : goal.invariant-loop-at
invariant-loop-at l = record {
  crossings : (at : ℕ) → at < l.at → AreCrossings (area_of l.parts) l.owners l.first.place at;
  tells : (ss : List State) → TellsFaults (area_of l.parts) ss l.initial.first.place l.first.place;
}
