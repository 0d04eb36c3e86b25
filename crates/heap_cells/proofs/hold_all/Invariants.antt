use Rattle.std.proofs.Common.{◌≡◌, take}
use Rattle.heap_cells.specs.HeapFields.{held_all}
use Rattle.heap_cells.proofs.hold_all.Given as goal

abbrev pub invariant-loop-c : goal.invariant-loop-c
invariant-loop-c l = l.variables.items ≡ held_all l.initial.variables.items (take l.c-index l.cells)
