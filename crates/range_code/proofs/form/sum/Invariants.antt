use Rattle.std.proofs.Common.{◌≡◌, drop, ◌+ℤ◌, nat_abs}
use Rattle.range_code.specs.Frames.{slot_set}
use Rattle.range_code.specs.Forms.{sum_of, AreNarrow}
use Rattle.range_code.proofs.form.sum.Given as goal

abbrev pub invariant-loop-product : goal.invariant-loop-product
invariant-loop-product g l = record {
  value : l.sum +ℤ sum_of (slot_set (g.V.View.sets l.view) l.args) (drop l.product-index l.products) ≡ l.constant +ℤ sum_of (slot_set (g.V.View.sets l.view) l.args) l.products;
  width : AreNarrow (nat_abs l.sum) (drop l.product-index l.products);
}
