use Rattle.std.proofs.Common.{ℕ, ◌≤◌, ◌≡◌, true, take}
use Rattle.fd_language.specs.Family.{has}
use Rattle.code_text.proofs.entry_states.are_up_to.Given as goal

abbrev pub invariant-loop-index : goal.invariant-loop-index
invariant-loop-index l = (n : ℕ) → has (take l.index l.numbers) n ≡ true → (1 ≤ n) × (n ≤ l.count)
