use Rattle.std.proofs.Common.{◌≡◌, ◌+◌, ◌++◌, drop}
use Rattle.fd_model.specs.ListRows.{units}
use Rattle.constraint_expand.proofs.counts.sum_of.Given as goal

abbrev pub invariant-loop-index : goal.invariant-loop-index
invariant-loop-index l = l.units.items ++ units (drop l.index l.variables) (l.first + l.index) ≡ units l.variables l.first
