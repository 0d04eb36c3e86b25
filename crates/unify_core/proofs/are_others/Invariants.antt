use Rattle.std.proofs.Common.{take, All}
use Rattle.unify_core.specs.OccursCheck.{IsAbsentAmong, ShowsOther}
use Rattle.unify_core.proofs.are_others.Given as goal

abbrev pub invariant-loop-c : goal.invariant-loop-c
invariant-loop-c l = IsAbsentAmong l.heap.now l.var (take l.c-index l.cells) × All (ShowsOther l.heap.now l.var) (take l.c-index l.cells)
