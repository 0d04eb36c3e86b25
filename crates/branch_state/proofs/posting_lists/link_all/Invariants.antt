use Rattle.std.proofs.Common.{◌≡◌, take}
use Rattle.branch_state.specs.PostingLists.{LinksMore}
use Rattle.branch_state.specs.StoreVariables.{with_level_sets}
use Rattle.branch_state.proofs.posting_lists.link_all.Given as goal

abbrev pub invariant-loop-x : goal.invariant-loop-x
invariant-loop-x g l = record {
  store : l.store ≡ with_level_sets l.fn.store l.store.current.sets;
  below : l.heap.below ≡ l.fn.heap.below;
  linked : LinksMore l.fn.heap.now l.fn.store.current.sets (take l.x-index l.variables) l.heap.now l.store.current.sets;
}
