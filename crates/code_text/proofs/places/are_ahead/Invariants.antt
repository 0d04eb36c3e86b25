use Rattle.std.proofs.Common.{ℕ, ◌<◌, ◌≡◌, true, take}
use Rattle.fd_language.specs.Family.{has}
use Rattle.code_text.proofs.places.are_ahead.Given as goal

abbrev pub invariant-loop-index : goal.invariant-loop-index
invariant-loop-index l = (to : ℕ) → has (take l.index l.named) to ≡ true → (l.at < to) × (to < l.end)
