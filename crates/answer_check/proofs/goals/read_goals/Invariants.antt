use Rattle.fd_language.specs.declared.TheConstants.{INFINITY}
use Rattle.term_pool.specs.PlacedTerms.{placed_of}
use Rattle.term_pool.specs.Terms.{total_size}
use Rattle.answer_check.specs.FlatForm.{conjuncts, flat_goals}
use Rattle.answer_check.proofs.Bodies.{IsGoingOn}
use Rattle.answer_check.proofs.goals.read_goals.Given as goal

abbrev pub invariant-loop-t : goal.invariant-loop-t
invariant-loop-t l = IsGoingOn l.pool l.count (flat_goals INFINITY l.count (conjuncts (placed_of l.pool l.fn.body))) l.constraints.items l.ahead.items

abbrev pub decreases-loop-t : goal.decreases-loop-t
decreases-loop-t l = total_size l.pool l.ahead.items
