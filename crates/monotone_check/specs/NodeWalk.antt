-- How far a range is walked.
use Rattle.std.specs.Prelude.{◌≡◌, ℕ, List, Some, drop}
use Rattle.fd_language.specs.declared.range_node.RangeNode.{RangeNode}
use Rattle.fd_language.specs.declared.TheConstants.{INFINITY}
use Rattle.fd_language.specs.Range.{Range, Expr}
use Rattle.fd_language.specs.PostfixRanges.{built, spelled_range}
use Rattle.monotone_check.specs.declared.pending_checks.Pending.{Pending}
use Rattle.monotone_check.specs.PendingChecks.{IsPending}

-- the nodes from the number n on build the range on top of what waits
abbrev pub IsWalked : (ℕ → ℕ) → ℕ → List RangeNode → Pending → Type 0
IsWalked at n nodes p = (rs : List Range) × (ts : List Expr) × (Some (spelled_range nodes) ≡ built (drop n nodes) rs ts) × IsPending INFINITY at n rs ts p
