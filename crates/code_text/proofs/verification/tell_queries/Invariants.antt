use Rattle.std.proofs.Common.{ℕ, ◌<◌, ◌⊎◌}
use Rattle.wam_code.specs.Area.{Span, HasQuery, area_of}
use Rattle.code_text.specs.LocalConditions.{FitsAlone}
use Rattle.code_listing.specs.States.{states_of}
use Rattle.code_text.specs.FaultPlaces.{IsTold, TellsFaults}
use Rattle.code_text.proofs.verification.tell_queries.Given as goal

abbrev pub invariant-loop-number : goal.invariant-loop-number
invariant-loop-number l = record {
  found : (n : ℕ) (q : Span) → n < l.number → HasQuery (area_of l.parts) n q → FitsAlone (area_of l.parts) (states_of l.states) q ⊎ IsTold l.first.place q.at;
  tells : TellsFaults (area_of l.parts) (states_of l.states) l.initial.first.place l.first.place;
}
