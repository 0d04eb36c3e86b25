use Rattle.std.proofs.Common.{map}
use Rattle.range_code.specs.Heights.{tallest}
use Rattle.range_code.specs.Pieces.{piece_node}
use Rattle.range_code.proofs.Peaks.{IsHigh}
use Rattle.range_code.proofs.compile.height_of.Given as goal

abbrev pub invariant-loop-piece : goal.invariant-loop-piece
invariant-loop-piece l = IsHigh (map piece_node l.pieces) l.piece-index l.values l.sets l.height (tallest (map piece_node l.pieces))
