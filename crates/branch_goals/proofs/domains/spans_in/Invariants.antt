use Rattle.std.proofs.Common.{◌≡◌, map, take}
use Rattle.branch_goals.proofs.DomainLists.{whole_numbers}
use Rattle.branch_goals.proofs.domains.spans_in.Given as goal

abbrev pub invariant-loop-low : goal.invariant-loop-low
invariant-loop-low l = l.spans.items ≡ map whole_numbers (take l.low-index l.low-items)
