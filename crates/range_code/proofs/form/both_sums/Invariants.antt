use Rattle.range_code.specs.Frames.{slot_set}
use Rattle.range_code.specs.Forms.{total_of}
use Rattle.range_code.proofs.Forms.{Summing}
use Rattle.range_code.proofs.form.both_sums.Given as goal

abbrev pub invariant-loop-product : goal.invariant-loop-product
invariant-loop-product g l = Summing (slot_set (g.V.View.sets l.view) l.args) l.product-items l.high.products.items l.product-index l.low_sum l.high_sum
    (total_of (slot_set (g.V.View.sets l.view) l.args) l.low) (total_of (slot_set (g.V.View.sets l.view) l.args) l.high)
