use Rattle.term_pool.specs.PlacedTerms.{placed_of}
use Rattle.clause_check.specs.GoalStores.{total_weight}
use Rattle.clause_check.proofs.BodyWalk.{IsReading}
use Rattle.clause_check.proofs.goals.GoalStore.read_body.Given as goal

abbrev pub invariant-loop-task : goal.invariant-loop-task
invariant-loop-task l = IsReading l.fn.infinity l.sentences l.fn.self (placed_of l.sentences.pool l.fn.body) l.self

abbrev pub decreases-loop-task : goal.decreases-loop-task
decreases-loop-task l = total_weight l.sentences.pool l.self.tasks.items
