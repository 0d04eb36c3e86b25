use Rattle.std.proofs.Common.{◌≡◌, ℕ, take}
use Rattle.fd_language.specs.Family.{has}
use Rattle.code_flow.proofs.state_transfer.set_of.Given as goal

abbrev pub invariant-loop-index : goal.invariant-loop-index
invariant-loop-index l = (n : ℕ) → has l.found.keys n ≡ has (take l.index l.numbers) n
