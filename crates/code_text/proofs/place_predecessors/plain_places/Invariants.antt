use Rattle.std.proofs.Common.{ℕ, ◌↔◌, IsTrue}
use Rattle.fd_language.specs.Family.{has}
use Rattle.wam_code.specs.Area.{area_of}
use Rattle.code_text.specs.Predecessors.{IsNamedPlainly}
use Rattle.code_text.proofs.place_predecessors.plain_places.Given as goal

abbrev pub invariant-loop-at : goal.invariant-loop-at
invariant-loop-at l = (p : ℕ) → IsTrue (has l.named.items p) ↔ IsNamedPlainly (area_of l.parts) l.at p
