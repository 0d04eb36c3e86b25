use Rattle.term_pool.specs.Terms.{total_size}
use Rattle.text_warnings.specs.SilentLosses.{range_losses}
use Rattle.text_warnings.proofs.Walks.{IsWalking}
use Rattle.text_warnings.proofs.ranges.put_range.Given as goal

abbrev pub invariant-loop-next : goal.invariant-loop-next
invariant-loop-next l = IsWalking l.pool range_losses l.fn.range l.initial.warnings.items l.warnings.items l.ahead.items

abbrev pub decreases-loop-next : goal.decreases-loop-next
decreases-loop-next l = total_size l.pool l.ahead.items
