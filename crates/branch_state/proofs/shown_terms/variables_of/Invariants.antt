use Rattle.term_pool.specs.Terms.{total_size}
use Rattle.branch_state.specs.ShownTerms.{variables_at}
use Rattle.branch_state.proofs.ShownTerms.{IsFinding}
use Rattle.branch_state.proofs.shown_terms.variables_of.Given as goal

abbrev pub invariant-loop-next : goal.invariant-loop-next
invariant-loop-next l = IsFinding l.pool (variables_at l.pool l.terms) l.found.items l.ahead.items

abbrev pub decreases-loop-next : goal.decreases-loop-next
decreases-loop-next l = total_size l.pool l.ahead.items
