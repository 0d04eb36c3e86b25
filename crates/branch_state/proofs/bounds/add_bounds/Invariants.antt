use Rattle.std.proofs.Common.{◌≡◌, ◌-◌, ◌≤◌, ◌++◌, map}
use Rattle.propagate_queue.specs.Instances.{posting}
use Rattle.branch_state.specs.VariableBounds.{bound_postings}
use Rattle.branch_state.proofs.bounds.add_bounds.Given as goal

abbrev pub invariant-loop-k : goal.invariant-loop-k
invariant-loop-k l = record {
  to : l.k - l.made.first ≤ l.vars - l.made.first;
  listed : map posting l.list.items ≡ map posting l.fn.list.items ++ bound_postings l.made.infinity l.made.first (l.k - l.made.first);
}
