use Rattle.std.proofs.Common.{◌≡◌, List, length}
use Rattle.wam_code.specs.Area.{State, area_of}
use Rattle.code_text.specs.FaultPlaces.{TellsFaults}
use Rattle.code_text.specs.Owners.{AreBegins}
use Rattle.code_text.proofs.owners.begins_of.Given as goal

abbrev pub invariant-loop-number : goal.invariant-loop-number
invariant-loop-number l = record {
  size : length l.begins.items ≡ length (area_of l.parts).code;
  begins : AreBegins (area_of l.parts) l.number l.first.place l.begins.items;
  tells : (ss : List State) → TellsFaults (area_of l.parts) ss l.initial.first.place l.first.place;
}
