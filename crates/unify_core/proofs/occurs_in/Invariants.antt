use Rattle.std.proofs.Common.{◌++◌, [], ◌∷◌}
use Rattle.heap_cells.specs.declared.Cell.TheVariants as cell
use Rattle.unify_core.proofs.OccursCheck.{ahead_size, Looks}
use Rattle.unify_core.proofs.occurs_in.Given as goal

abbrev pub invariant-compounds : goal.invariant-compounds
invariant-compounds l = Looks l.heap.now l.var (l.ahead ++ l.at ∷ []) (cell.Struct l.fn.top)

abbrev pub decreases-compounds : goal.decreases-compounds
decreases-compounds l = ahead_size l.heap.now (l.ahead ++ l.at ∷ [])
