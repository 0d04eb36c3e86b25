use Rattle.std.proofs.Common.{map}
use Rattle.code_text.specs.LocalConditions.{AreCells}
use Rattle.code_listing.specs.States.{slot_of}
use Rattle.code_text.proofs.verification.are_cells.Given as goal

abbrev pub invariant-loop-index : goal.invariant-loop-index
invariant-loop-index l = AreCells l.index (map slot_of l.slots)
