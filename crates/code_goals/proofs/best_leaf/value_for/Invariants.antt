use Rattle.std.proofs.Common.{◌≡◌, drop}
use Rattle.code_goals.specs.BestLeaf.{value_for}
use Rattle.code_goals.proofs.best_leaf.value_for.Given as goal

abbrev pub invariant-loop-value : goal.invariant-loop-value
invariant-loop-value l = value_for (drop l.value-index l.values) l.variable ≡ value_for l.values l.variable
