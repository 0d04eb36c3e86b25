use Rattle.heap_terms.proofs.CellWalk.{IsReading, ahead_of}
use Rattle.heap_terms.proofs.read_back.Given as goal

abbrev pub invariant-loop-task : goal.invariant-loop-task
invariant-loop-task g l = IsReading l.from.names l.heap.now (g.V.View.sets l.view) l.fn.c l.fn.pool l.pool l.tasks.items l.done.items

abbrev pub decreases-loop-task : goal.decreases-loop-task
decreases-loop-task g l = ahead_of l.from.names l.heap.now (g.V.View.sets l.view) l.fn.c l.fn.pool l.tasks.items
