use Rattle.std.proofs.Common.{ℕ, IsTrue, true, ◌≡◌, take}
use Rattle.fd_language.specs.Family.{has}
use Rattle.wam_code.specs.Area.{area_of}
use Rattle.code_text.specs.FaultPlaces.{Tells}
use Rattle.code_text.specs.Owners.{IsCrossing, IsCrossed}
use Rattle.code_text.proofs.crossings.tell_named.Given as goal

abbrev pub invariant-loop-index : goal.invariant-loop-index
invariant-loop-index l = record {
  crossings : (to : ℕ) → has (take l.index l.named) to ≡ true → IsCrossing (area_of l.parts) l.owners l.first.place l.at to;
  tells : Tells (λ p. (to : ℕ) × IsTrue (has l.named to) × IsCrossed (area_of l.parts) l.owners l.at to p) l.initial.first.place l.first.place;
}
