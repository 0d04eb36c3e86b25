use Rattle.fd_model.specs.Linear.{of_both, difference_of, collect_term}
use Rattle.std.proofs.Common.{[]}
use Rattle.term_pool.specs.Terms.{term_of}
use Rattle.linear_forms.specs.Tasks.{before, load, IsLeft}
use Rattle.linear_forms.proofs.walk.collect_difference.Given as goal

abbrev pub invariant-loop-task : goal.invariant-loop-task
invariant-loop-task l = IsLeft l.pool (before [] (of_both difference_of (collect_term (term_of l.pool l.fn.left)) (collect_term (term_of l.pool l.fn.right)))) l.made l.ahead.items

abbrev pub decreases-loop-task : goal.decreases-loop-task
decreases-loop-task l = load l.pool l.ahead.items
