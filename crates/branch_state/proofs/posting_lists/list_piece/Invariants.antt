use Rattle.std.proofs.Common.{◌≡◌, take}
use Rattle.constraint_expand.specs.Posts.{indexicals}
use Rattle.branch_state.specs.Constraints.{variables_in}
use Rattle.branch_state.specs.PostingLists.{AreListed, LinksMore}
use Rattle.branch_state.specs.StoreVariables.{with_level_sets}
use Rattle.branch_state.proofs.posting_lists.list_piece.Given as goal

abbrev pub invariant-loop-range : goal.invariant-loop-range
invariant-loop-range g l = record {
  store : l.store ≡ with_level_sets l.fn.store l.store.current.sets;
  below : l.heap.below ≡ l.fn.heap.below;
  linked : LinksMore l.fn.heap.now l.fn.store.current.sets (variables_in (indexicals (take l.range-index l.piece))) l.heap.now l.store.current.sets;
  listed : AreListed l.heap.now (indexicals (take l.range-index l.piece)) l.fn.list.items l.list.items;
}
