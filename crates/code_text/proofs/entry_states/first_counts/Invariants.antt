use Rattle.std.proofs.Common.{◌≡◌, ℕ, ◌<◌, length}
use Rattle.wam_code.specs.Area.{State, HasState}
use Rattle.code_text.specs.LocalConditions.{IsFirstCount}
use Rattle.code_text.specs.Owners.{owner_at}
use Rattle.code_listing.specs.States.{states_of}
use Rattle.code_text.proofs.entry_states.first_counts.Given as goal

abbrev pub invariant-loop-at : goal.invariant-loop-at
invariant-loop-at l = record {
  size : length l.counts.items ≡ l.at;
  counts : (at : ℕ) (s : State) → at < l.at → HasState (states_of l.states) at s → IsFirstCount s (owner_at l.counts.items at);
}
