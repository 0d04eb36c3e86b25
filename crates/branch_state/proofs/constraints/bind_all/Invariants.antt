use Rattle.std.proofs.Common.{◌≡◌, take}
use Rattle.heap_cells.specs.Cells.{with_now}
use Rattle.heap_cells.specs.HeapInvariant.{IsHeap}
use Rattle.branch_state.specs.Constraints.{with_integers}
use Rattle.branch_state.proofs.constraints.bind_all.Given as goal

abbrev pub invariant-loop-pair : goal.invariant-loop-pair
invariant-loop-pair l = (l.heap ≡ with_now l.fn.heap (with_integers (take l.pair-index l.equated) l.fn.heap.now)) × IsHeap l.heap.now
