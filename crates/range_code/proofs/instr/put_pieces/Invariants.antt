use Rattle.std.proofs.Common.{◌≡◌, take, map, ◌++◌}
use Rattle.range_code.specs.Pieces.{piece_node}
use Rattle.range_code.specs.Instructions.{instr_of}
use Rattle.range_code.proofs.instr.put_pieces.Given as goal

abbrev pub invariant-loop-piece : goal.invariant-loop-piece
invariant-loop-piece l = l.instrs.items ≡ l.fn.instrs.items ++ map (instr_of l.table.places.keys) (map piece_node (take l.piece-index l.pieces))
