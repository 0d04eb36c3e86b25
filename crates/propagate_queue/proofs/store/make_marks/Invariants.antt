use Rattle.std.proofs.Common.{◌≡◌, ◌≤◌}
use Rattle.propagate_queue.specs.StoreFields.{with_waiting}
use Rattle.propagate_queue.proofs.store.make_marks.Given as goal

abbrev pub invariant-loop-waiting : goal.invariant-loop-waiting
invariant-loop-waiting g l = record {
  most : l.waiting ≤ l.fn.waiting;
  current : l.made.current ≡ l.fn.made.current;
  below : (with_waiting l.made l.waiting).below ≡ (with_waiting l.fn.made l.fn.waiting).below;
  spent : l.made.spent ≡ l.fn.made.spent;
}

abbrev pub decreases-loop-waiting : goal.decreases-loop-waiting
decreases-loop-waiting g l = l.waiting
