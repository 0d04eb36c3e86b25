-- What a heap holds, as callers see it: variables and compound terms, each found by its number.
use Rattle.std.specs.Prelude.{◌≡◌, ℕ, ◌<◌, Bool, true, false, List, [], ◌∷◌, ◌++◌, length, slice_index_or, slice_set}
use Rattle.term_pool.specs.declared.AtomId.{AtomId}
use Rattle.term_pool.specs.declared.TheConstants.{NIL}
use Rattle.heap_cells.specs.declared.Cell.{Cell}
use Rattle.heap_cells.specs.declared.Cell.TheVariants as cell

-- a variable is free, a variable of the store, or bound to a cell
pub data Slot : Type 0 where
  free : Slot
  linked : ℕ → Slot
  bound : Cell → Slot

abbrev pub is_bound : Slot → Bool
is_bound free = false
is_bound (linked k) = false
is_bound (bound c) = true

pub record Compound : Type 0 where
  pub name : AtomId
  pub args : List Cell

pub record Cells : Type 0 where
  pub slots : List Slot
  pub compounds : List Compound

-- a heap with nothing in it
abbrev pub no_cells : Cells
no_cells = record { slots = []; compounds = [] }

-- the current heap, and those below it, the newest first
pub record Heaps : Type 0 where
  pub now : Cells
  pub below : List Cells

-- a variable that isn't there is free, and a compound term that isn't there is []()
abbrev pub slot_at : Cells → ℕ → Slot
slot_at h i = slice_index_or h.slots i free

abbrev pub compound_at : Cells → ℕ → Compound
compound_at h j = slice_index_or h.compounds j (record { name = NIL; args = [] })

-- the cell is of this heap
abbrev pub IsOf : Cells → Cell → Type 0
IsOf h (cell.Ref i) = i < length h.slots
IsOf h (cell.Int z) = Unit {0}
IsOf h (cell.Atom a) = Unit {0}
IsOf h (cell.Struct j) = j < length h.compounds

-- the heap with another slot, with one more variable, with one more compound term
abbrev pub with_slot : Cells → ℕ → Slot → Cells
with_slot h i s = record { slots = slice_set h.slots i s; compounds = h.compounds }

abbrev pub with_new_slot : Cells → Cells
with_new_slot h = record { slots = h.slots ++ free ∷ []; compounds = h.compounds }

abbrev pub with_compound : Cells → Compound → Cells
with_compound h k = record { slots = h.slots; compounds = h.compounds ++ k ∷ [] }

-- another current heap, a copy of the current one below it, and one more compound term in it
abbrev pub with_now : Heaps → Cells → Heaps
with_now hs h = record { now = h; below = hs.below }

abbrev pub with_mark : Heaps → Heaps
with_mark hs = record { now = hs.now; below = hs.now ∷ hs.below }

abbrev pub AddsCompound : AtomId → List Cell → Heaps → Heaps → Type 0
AddsCompound f args old new = new
    ≡ with_now old (with_compound old.now (record { name = f; args = args }))
