use Rattle.std.proofs.Common.{◌≡◌, length}
use Rattle.branch_state.specs.StoreVariables.{with_level_sets}
use Rattle.branch_state.proofs.PostingLists.{AreGiven}
use Rattle.branch_state.proofs.posting_lists.list_ranges.Given as goal

abbrev pub invariant-loop-list : goal.invariant-loop-list
invariant-loop-list g l = record {
  store : l.store ≡ with_level_sets l.fn.store l.store.current.sets;
  below : l.heap.below ≡ l.fn.heap.below;
  equated : l.expansion.equated ≡ l.fn.expansion.equated;
  given : AreGiven l.fn.heap.now l.fn.store.current.sets l.fn.expansion.ranges l.expansion.ranges l.heap.now l.store.current.sets l.list.items;
}

abbrev pub decreases-loop-list : goal.decreases-loop-list
decreases-loop-list g l = length l.expansion.ranges
