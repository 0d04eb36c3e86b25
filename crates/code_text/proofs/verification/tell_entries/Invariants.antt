use Rattle.std.proofs.Common.{ℕ, ◌<◌}
use Rattle.wam_code.specs.Area.{area_of}
use Rattle.code_text.specs.Places.{IsEntryTold}
use Rattle.code_listing.specs.States.{states_of}
use Rattle.code_text.specs.FaultPlaces.{TellsFaults}
use Rattle.code_text.proofs.verification.tell_entries.Given as goal

abbrev pub invariant-loop-number : goal.invariant-loop-number
invariant-loop-number l = record {
  found : (number : ℕ) → number < l.number → IsEntryTold (area_of l.parts) (states_of l.states) l.owners l.first.place number;
  tells : TellsFaults (area_of l.parts) (states_of l.states) l.initial.first.place l.first.place;
}
