use Rattle.std.proofs.Common.{◌≡◌, ℕ, true, take}
use Rattle.fd_language.specs.Family.{has}
use Rattle.code_flow.proofs.state_transfer.Handed.has_all.Given as goal

abbrev pub invariant-loop-index : goal.invariant-loop-index
invariant-loop-index l = (n : ℕ) → has (take l.index l.numbers) n ≡ true → has l.self.regs n ≡ true
