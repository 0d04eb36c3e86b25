use Rattle.std.proofs.Common.{length}
use Rattle.branch_goals.proofs.DomainLists.{IsListing}
use Rattle.branch_goals.proofs.domains.list_spans.Given as goal

abbrev pub invariant-loop-low : goal.invariant-loop-low
invariant-loop-low g l = IsListing l.fn.branch l.fn.spans.items l.spans.items l.branch l.list

abbrev pub decreases-loop-low : goal.decreases-loop-low
decreases-loop-low g l = length l.spans.items
