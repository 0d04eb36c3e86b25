use Rattle.std.proofs.Common.{take}
use Rattle.unify_core.specs.OccursCheck.{LeavesAhead}
use Rattle.unify_core.proofs.look_into.Given as goal

abbrev pub invariant-loop-c : goal.invariant-loop-c
invariant-loop-c l = LeavesAhead l.heap.now l.var (take l.c-index l.cells) l.fn.ahead l.ahead
