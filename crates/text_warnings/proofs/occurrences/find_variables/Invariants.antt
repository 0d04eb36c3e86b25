use Rattle.term_pool.specs.Terms.{total_size}
use Rattle.text_warnings.specs.OpenVariables.{occurrences}
use Rattle.text_warnings.proofs.Walks.{IsFinding}
use Rattle.text_warnings.proofs.occurrences.find_variables.Given as goal

abbrev pub invariant-loop-next : goal.invariant-loop-next
invariant-loop-next l = IsFinding l.pool occurrences l.fn.t l.found.items l.ahead.items

abbrev pub decreases-loop-next : goal.decreases-loop-next
decreases-loop-next l = total_size l.pool l.ahead.items
