use Rattle.std.proofs.Common.{◌≡◌, None, take}
use Rattle.fd_language.specs.Term.{Term}
use Rattle.heap_cells.specs.Terms.{Naming}
use Rattle.range_code.specs.Slots.{slots_of, slot_needs}
use Rattle.branch_state.specs.CellVariables.{shown_slots}
use Rattle.branch_state.specs.StoreVariables.{IsKind, offence, first_in}
use Rattle.branch_state.proofs.cell_looks.find_cells_offence.Given as goal

abbrev pub invariant-loop-index : goal.invariant-loop-index
invariant-loop-index g l =
    (name : Naming) (t : Term) → IsKind t l.fn.target
    → (offence None t ≡ None) × (first_in (shown_slots name l.heap.now l.store.current.sets l.code l.cells) (take l.index (slots_of l.code))
    (take l.index (slot_needs l.code)) ≡ None)
