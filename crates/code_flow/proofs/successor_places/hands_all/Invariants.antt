use Rattle.std.proofs.Common.{ℕ, IsTrue, take}
use Rattle.fd_language.specs.Family.{has}
use Rattle.code_flow.specs.Successors.{CoversAt}
use Rattle.code_listing.specs.States.{states_of}
use Rattle.code_flow.proofs.successor_places.hands_all.Given as goal

abbrev pub invariant-loop-index : goal.invariant-loop-index
invariant-loop-index l = (to : ℕ) → IsTrue (has (take l.index l.named) to) → CoversAt (states_of l.states) l.handed to
