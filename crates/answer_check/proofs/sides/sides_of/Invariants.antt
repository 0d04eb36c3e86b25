use Rattle.std.proofs.Common.{[], ◌∷◌}
use Rattle.answer_check.specs.declared.sides.Task.TheVariants as task
use Rattle.answer_check.specs.Sides.{IsLeft, load, run}
use Rattle.answer_check.proofs.sides.sides_of.Given as goal

abbrev pub invariant-loop-task : goal.invariant-loop-task
invariant-loop-task l = IsLeft l.pool (run l.pool (task.Spell l.fn.right ∷ task.Spell l.fn.left ∷ []) []) l.made l.ahead.items

abbrev pub decreases-loop-task : goal.decreases-loop-task
decreases-loop-task l = load l.pool l.ahead.items
