use Rattle.term_pool.specs.Terms.{total_size}
use Rattle.clause_code.proofs.ArgumentHomes.{Walking}
use Rattle.clause_code.proofs.argument_homes.leave_all.Given as goal

abbrev pub invariant-loop-t : goal.invariant-loop-t
invariant-loop-t l = Walking l.pool l.least l.last l.first l.fn.homes.items l.fn.terms.items l.homes.items l.terms.items

abbrev pub decreases-loop-t : goal.decreases-loop-t
decreases-loop-t l = total_size l.pool l.terms.items
