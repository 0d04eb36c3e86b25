use Rattle.std.proofs.Common.{map, take}
use Rattle.term_pool.specs.PlacedTerms.{placed_of}
use Rattle.text_warnings.proofs.OpenGoals.{ArePassed}
use Rattle.text_warnings.proofs.open_variables.put_goals.Given as goal

abbrev pub invariant-loop-goal : goal.invariant-loop-goal
invariant-loop-goal l = ArePassed l.pool l.names l.initial.passed (map (placed_of l.pool) (take l.goal-index l.goals)) l.passed l.initial.warnings.items l.warnings.items
