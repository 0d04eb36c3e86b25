-- The cells of a heap that grows.
use Rattle.heap_cells.specs.declared.Cell.{Cell}
use Rattle.heap_cells.specs.Cells.{Cells, IsOf}
use Rattle.heap_cells.proofs.Lemmas.{of_wider}
use Rattle.branch_lemmas.specs.Frames.{IsGrown}

pub of_grown : (old now : Cells) → IsGrown old now → (c : Cell) → IsOf old c → IsOf now c
of_grown old now g c o = of_wider old now c g.longer g.parts o
