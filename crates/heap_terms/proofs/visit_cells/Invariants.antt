use Rattle.std.proofs.Common.{◌≡◌, ◌++◌, drop}
use Rattle.std.specs.Prelude.{map, reverse}
use Rattle.heap_terms.specs.declared.ReadTask.TheVariants.{Visit}
use Rattle.heap_terms.proofs.visit_cells.Given as goal

abbrev pub invariant-loop-i : goal.invariant-loop-i
invariant-loop-i l = l.tasks.items ≡ l.fn.tasks.items ++ reverse (map Visit (drop l.i l.cells))
