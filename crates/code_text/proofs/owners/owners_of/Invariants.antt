use Rattle.std.proofs.Common.{◌≡◌, List, length}
use Rattle.wam_code.specs.Area.{State, area_of}
use Rattle.code_text.specs.FaultPlaces.{TellsFaults}
use Rattle.code_text.specs.Owners.{AreOwners}
use Rattle.code_text.proofs.PlaceOwners.{IsBefore}
use Rattle.code_text.proofs.owners.owners_of.Given as goal

abbrev pub invariant-loop-at : goal.invariant-loop-at
invariant-loop-at l = record {
  size : length l.owners.items ≡ l.at;
  owners : AreOwners (area_of l.parts) l.at l.first.place l.owners.items;
  last : IsBefore l.owners.items l.at l.last;
  tells : (ss : List State) → TellsFaults (area_of l.parts) ss l.initial.first.place l.first.place;
}
