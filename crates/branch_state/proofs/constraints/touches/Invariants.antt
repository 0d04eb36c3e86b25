use Rattle.std.proofs.Common.{◌≡◌, take}
use Rattle.branch_state.specs.Constraints.{row_touches, store_variable}
use Rattle.branch_state.proofs.constraints.touches.Given as goal

abbrev pub invariant-loop-pair : goal.invariant-loop-pair
invariant-loop-pair l = l.fixed.items ≡ row_touches (store_variable l.heap.now) (take l.pair-index l.equated)
