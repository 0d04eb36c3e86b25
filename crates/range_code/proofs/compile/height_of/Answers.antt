use Rattle.std.proofs.Common.{◌∙◌, ap, map, max}
use Rattle.range_code.specs.Heights.{tallest}
use Rattle.range_code.specs.Pieces.{piece_node}
use Rattle.range_code.proofs.Peaks.{high_piece}
use Rattle.range_code.proofs.compile.height_of.Goals as goal

pub loop-piece-preserved : goal.loop-piece-preserved
loop-piece-preserved c = high_piece c.args.pieces.now c.loop-piece.piece-index c.loop-piece.values c.loop-piece.sets c.loop-piece.height (tallest (map piece_node c.args.pieces.now))
    c.values_behind-values.result c.sets_behind-sets.result c.max-height.result _ c.loop-piece-test.true c.loop-piece.invariant c.values_behind-values.ensures
    c.sets_behind-sets.ensures (c.max-height.ensures ∙ ap (λ k. max k c.sets_behind-sets.result) c.max.ensures)
