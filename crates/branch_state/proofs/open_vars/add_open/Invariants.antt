use Rattle.std.proofs.Common.{◌≡◌, ◌≤◌}
use Rattle.branch_state.specs.StoreVariables.{with_level_sets}
use Rattle.branch_state.specs.OpenSets.{with_open_sets}
use Rattle.branch_state.proofs.open_vars.add_open.Given as goal

abbrev pub invariant-loop : goal.invariant-loop
invariant-loop g l = record {
  to : l.counter ≤ l.fn.count;
  added : l.store ≡ with_level_sets l.fn.store (with_open_sets l.counter l.fn.store.current.sets);
}
