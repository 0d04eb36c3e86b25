use Rattle.std.proofs.Common.{◌≡◌, ℕ, ◌<◌, length}
use Rattle.wam_code.specs.Area.{area_of}
use Rattle.code_text.specs.Predecessors.{AreNamers, namers_at}
use Rattle.code_text.proofs.place_predecessors.namers_of.Given as goal

abbrev pub invariant-loop-at : goal.invariant-loop-at
invariant-loop-at l = record {
  size : length l.namers.items ≡ length (area_of l.parts).code;
  namers : (p : ℕ) → p < length (area_of l.parts).code → AreNamers (area_of l.parts) l.at p (namers_at l.namers.items p);
}
