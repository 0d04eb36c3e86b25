use Rattle.std.proofs.Common.{◌≡◌, ◌+◌, ◌-◌, ◌≤◌, ◌++◌, length, take, vec_len, vec_capacity}
use Rattle.heap_cells.proofs.push_copies.Given as goal

abbrev pub invariant-loop-cell : goal.invariant-loop-cell
invariant-loop-cell l = (l.cells.items ≡ l.initial.cells.items ++ take l.cell-index l.more) × (vec_len l.cells + (length l.more - l.cell-index) ≤ vec_capacity l.cells)
