use Rattle.range_code.proofs.ConstantPlaces.{literals_more}
use Rattle.range_code.proofs.instr.number_constants.Goals as goal

pub loop-piece-preserved : goal.loop-piece-preserved
loop-piece-preserved c = record {
  places = literals_more c.args.pieces.now c.loop-piece.piece-index _ c.loop-piece.table.places.keys c.add_piece.new.self.places.keys c.loop-piece-test.true
      c.loop-piece.invariant.places c.in_ok-add_piece.ensures.places;
  values = c.in_ok-add_piece.ensures.values c.loop-piece.invariant.values;
}
