-- Heaps that grow, and variables behind the last one.
use Rattle.std.proofs.Common.{◌≡◌, ℕ, ◌≤◌, length, ap, ◌∙◌, arith}
use Rattle.std.proofs.lemmas.List.{get_or_past}
use Rattle.fd_language.specs.Term.{Var}
use Rattle.heap_cells.specs.declared.Cell.TheVariants as cell
use Rattle.heap_cells.specs.Cells.{free, is_bound, Cells, slot_at, with_new_slot}
use Rattle.heap_cells.specs.Terms.{Naming, term_of}
use Rattle.heap_cells.specs.HeapInvariant.{IsHeap}
use Rattle.heap_cells.proofs.Lemmas.{new_slot_at, var_valid, unbound_term}

-- a variable that isn't there is free
pub slot_behind : (h : Cells) (c : ℕ) → length h.slots ≤ c → slot_at h c ≡ free
slot_behind h c l = get_or_past h.slots c free l

pub unused_cell : (name : Naming) (h : Cells) → IsHeap h → (c : ℕ) → length h.slots ≤ c → term_of name h (cell.Ref c) ≡ Var c
unused_cell name h valid c l = unbound_term name h valid c (ap is_bound (slot_behind h c l))

-- a new variable is open
pub new_open : (name : Naming) (h : Cells) → IsHeap h → term_of name (with_new_slot h) (cell.Ref (length h.slots)) ≡ Var (length h.slots)
new_open name h valid = unbound_term name (with_new_slot h) (var_valid h valid) (length h.slots) (ap is_bound (new_slot_at h.slots (length h.slots) ∙ slot_behind h (length h.slots) (omega arith)))
