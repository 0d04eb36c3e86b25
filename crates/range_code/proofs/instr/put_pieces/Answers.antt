use Rattle.range_code.specs.Instructions.{instr_of}
use Rattle.range_code.specs.Pieces.{piece_node}
use Rattle.range_code.proofs.CompiledRanges.{mapped_twice}
use Rattle.range_code.proofs.instr.put_pieces.Goals as goal

pub loop-piece-preserved : goal.loop-piece-preserved
loop-piece-preserved c = mapped_twice c.args.instrs.now.items piece_node (instr_of c.args.table.now.places.keys) c.args.pieces.now c.loop-piece.piece-index _
    c.loop-piece.instrs.items c.push.new.self.items c.instr_of_piece.result c.loop-piece-test.true c.loop-piece.invariant
    c.in_ok-push.ensures.items c.instr_of_piece.ensures
