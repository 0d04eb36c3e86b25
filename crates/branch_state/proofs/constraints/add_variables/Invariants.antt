use Rattle.std.proofs.Common.{◌≡◌, ◌≤◌, ◌-◌}
use Rattle.heap_cells.specs.Cells.{with_now}
use Rattle.branch_state.specs.Constraints.{with_variables}
use Rattle.branch_state.proofs.constraints.add_variables.Given as goal

abbrev pub invariant-loop : goal.invariant-loop
invariant-loop l = record {
  from : l.fn.from ≤ l.counter;
  to : l.counter - l.fn.from ≤ l.fn.to - l.fn.from;
  added : l.heap ≡ with_now l.fn.heap (with_variables (l.counter - l.fn.from) l.fn.heap.now);
}
