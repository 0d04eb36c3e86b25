use Rattle.std.proofs.Common.{rules, SFits, to_z, to_z-of_z}
use mir.Syntax.{w64}
use Rattle.range_code.specs.Frames.{slot_set}
use Rattle.range_code.proofs.Forms.{at_end, sum_more, width_more}
use Rattle.range_code.proofs.form.sum.Goals as goal

pub slot_domain-requires : goal.slot_domain-requires
slot_domain-requires g c = c.requires.seen c.loop-product.product-index _ c.loop-product-test.true

pub loop-product-preserved : goal.loop-product-preserved
loop-product-preserved g c =
    let f : SFits w64 c.add_product-sum.result = search rules in
    record {
      value = simp to_z-of_z (sum_more (slot_set (g.V.View.sets c.args.view.now) c.args.args.now) c.args.products.now c.loop-product.product-index _
          (to_z w64 c.loop-product.sum-bits) _ c.add_product-sum.result c.end_of-end.result c.loop-product-test.true
          (at_end c.end_of-end.result c.slot_domain.result.now _ _ c.end_of-end.ensures.value c.slot_domain.ensures) c.loop-product.invariant.value
          c.add_product-sum.ensures);
      width = simp to_z-of_z (width_more c.args.products.now c.loop-product.product-index _ (to_z w64 c.loop-product.sum-bits) c.add_product-sum.result
          c.end_of-end.result c.loop-product-test.true c.loop-product.invariant.width c.end_of-end.ensures.limit c.add_product-sum.ensures);
    }
