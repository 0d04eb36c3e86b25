use Rattle.std.specs.Ordering.{int_eq}
use Rattle.std.proofs.Common.{◌≡◌, take}
use Rattle.fd_language.specs.Term.{Term}
use Rattle.heap_cells.specs.Terms.{Naming}
use Rattle.indexmap.specs.IndexMap.{get}
use Rattle.range_code.specs.Slots.{slots_of, slot_needs}
use Rattle.branch_state.specs.CellVariables.{shown_slots, AreCellsReady}
use Rattle.branch_state.specs.StoreVariables.{LooksAs, with_level_sets}
use Rattle.branch_state.proofs.cells.name_cells.Given as goal

abbrev pub invariant-loop-index : goal.invariant-loop-index
invariant-loop-index g l = record {
  store : l.store ≡ with_level_sets l.fn.store l.store.current.sets;
  below : l.heap.below ≡ l.fn.heap.below;
  ready : (name : Naming) (t : Term) → LooksAs l.fn.heap.now t l.fn.target
      → AreCellsReady t (shown_slots name l.fn.heap.now l.fn.store.current.sets l.code l.cells) l.fn.heap.now l.fn.store.current.sets
      (take l.index (slots_of l.code)) (take l.index (slot_needs l.code)) l.heap.now l.store.current.sets l.numbers.told.items
      (get int_eq l.numbers.variables) l.target l.args.items;
}
