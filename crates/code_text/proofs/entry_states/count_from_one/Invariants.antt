use Rattle.std.proofs.Common.{ℕ, ◌≤◌, ◌≡◌, true}
use Rattle.fd_language.specs.Family.{has}
use Rattle.code_text.proofs.entry_states.count_from_one.Given as goal

abbrev pub invariant-loop-count : goal.invariant-loop-count
invariant-loop-count l = (n : ℕ) → 1 ≤ n → n ≤ l.count → has l.set.keys n ≡ true
