use Rattle.std.proofs.Common.{rules, List, sym, subst, pos, SFits, to_z, to_z-of_z}
use mir.Syntax.{w64}
use Rattle.fd_language.specs.Family.{Family}
use Rattle.range_code.specs.Forms.{total_of, AreOpposite}
use Rattle.range_code.specs.Frames.{slot_set}
use Rattle.range_code.specs.declared.form.End.TheVariants.{Least}
use Rattle.range_code.specs.declared.form.Product.{Product}
use Rattle.range_code.proofs.Forms.{at_end, low_fits, high_fits, summed, low_done, high_done, low_small, high_small, starts_summing}
use Rattle.range_code.proofs.form.both_sums.Goals as goal

abbrev default : Product
default = record { weight = pos 0; slot = 0; end = Least }

pub loop-product-init : goal.loop-product-init
loop-product-init g c =
    let S : Family = slot_set (g.V.View.sets c.args.view.now) c.args.args.now in
    let x : SFits w64 c.args.low.now.constant = search rules in
    let y : SFits w64 c.args.high.now.constant = search rules in
    simp to_z-of_z (starts_summing S c.deref-product-items.result.now c.args.low.now c.args.high.now c.deref-product-items.ensures.value c.requires.low_width c.requires.high_width)

pub add_product-low_sum-requires-clause-width : goal.add_product-low_sum-requires-clause-width
add_product-low_sum-requires-clause-width g c =
    let S : Family = slot_set (g.V.View.sets c.args.view.now) c.args.args.now in
    let ms : List Product = c.deref-product-items.result.now in
    let ks : List Product = c.args.high.now.products.items in
    let opposite : AreOpposite ms ks = subst (λ l. AreOpposite l ks) (sym c.deref-product-items.ensures.value) c.requires.opposite in
    low_fits S ms ks c.loop-product.product-index (to_z w64 c.loop-product.low_sum-bits) (to_z w64 c.loop-product.high_sum-bits) (total_of S c.args.low.now)
    (total_of S c.args.high.now) opposite c.loop-product.invariant default c.loop-product-test.true

pub add_product-high_sum-requires-clause-width : goal.add_product-high_sum-requires-clause-width
add_product-high_sum-requires-clause-width g c =
    let S : Family = slot_set (g.V.View.sets c.args.view.now) c.args.args.now in
    let ms : List Product = c.deref-product-items.result.now in
    let ks : List Product = c.args.high.now.products.items in
    let opposite : AreOpposite ms ks = subst (λ l. AreOpposite l ks) (sym c.deref-product-items.ensures.value) c.requires.opposite in
    high_fits S ms ks c.loop-product.product-index (to_z w64 c.loop-product.low_sum-bits) (to_z w64 c.loop-product.high_sum-bits) (total_of S c.args.low.now)
    (total_of S c.args.high.now) opposite c.loop-product.invariant default c.loop-product-test.true

pub loop-product-preserved : goal.loop-product-preserved
loop-product-preserved g c =
    let S : Family = slot_set (g.V.View.sets c.args.view.now) c.args.args.now in
    let ms : List Product = c.deref-product-items.result.now in
    let ks : List Product = c.args.high.now.products.items in
    let opposite : AreOpposite ms ks = subst (λ l. AreOpposite l ks) (sym c.deref-product-items.ensures.value) c.requires.opposite in
    let x : SFits w64 c.add_product-low_sum.result = search rules in
    let y : SFits w64 c.add_product-high_sum.result = search rules in
    simp to_z-of_z (summed S ms ks c.loop-product.product-index (to_z w64 c.loop-product.low_sum-bits) (to_z w64 c.loop-product.high_sum-bits)
    (total_of S c.args.low.now) (total_of S c.args.high.now) opposite c.loop-product.invariant default c.loop-product-test.true
    c.both_ends-ends.result.0 c.both_ends-ends.result.1 c.add_product-low_sum.result c.add_product-high_sum.result
    (at_end _ c.slot_domain.result.now _ _ c.both_ends-ends.ensures.one c.slot_domain.ensures) (at_end _ c.slot_domain.result.now _ _ c.both_ends-ends.ensures.other c.slot_domain.ensures)
    c.both_ends-ends.ensures.one_limit c.both_ends-ends.ensures.other_limit c.add_product-low_sum.ensures c.add_product-high_sum.ensures)

pub returns-clause-low : goal.returns-clause-low
returns-clause-low g c =
    let S : Family = slot_set (g.V.View.sets c.args.view.now) c.args.args.now in
    let ms : List Product = c.deref-product-items.result.now in
    let ks : List Product = c.args.high.now.products.items in
    let opposite : AreOpposite ms ks = subst (λ l. AreOpposite l ks) (sym c.deref-product-items.ensures.value) c.requires.opposite in
    low_done S ms ks c.loop-product.product-index (to_z w64 c.loop-product.low_sum-bits) (to_z w64 c.loop-product.high_sum-bits) (total_of S c.args.low.now)
    (total_of S c.args.high.now) opposite c.loop-product.invariant c.loop-product-test.false

pub returns-clause-high : goal.returns-clause-high
returns-clause-high g c =
    let S : Family = slot_set (g.V.View.sets c.args.view.now) c.args.args.now in
    let ms : List Product = c.deref-product-items.result.now in
    let ks : List Product = c.args.high.now.products.items in
    let opposite : AreOpposite ms ks = subst (λ l. AreOpposite l ks) (sym c.deref-product-items.ensures.value) c.requires.opposite in
    high_done S ms ks c.loop-product.product-index (to_z w64 c.loop-product.low_sum-bits) (to_z w64 c.loop-product.high_sum-bits) (total_of S c.args.low.now)
    (total_of S c.args.high.now) opposite c.loop-product.invariant c.loop-product-test.false

pub returns-clause-low_limit : goal.returns-clause-low_limit
returns-clause-low_limit g c =
    let S : Family = slot_set (g.V.View.sets c.args.view.now) c.args.args.now in
    let ms : List Product = c.deref-product-items.result.now in
    let ks : List Product = c.args.high.now.products.items in
    let opposite : AreOpposite ms ks = subst (λ l. AreOpposite l ks) (sym c.deref-product-items.ensures.value) c.requires.opposite in
    low_small S ms ks c.loop-product.product-index (to_z w64 c.loop-product.low_sum-bits) (to_z w64 c.loop-product.high_sum-bits) (total_of S c.args.low.now)
    (total_of S c.args.high.now) opposite c.loop-product.invariant c.loop-product-test.false

pub returns-clause-high_limit : goal.returns-clause-high_limit
returns-clause-high_limit g c =
    let S : Family = slot_set (g.V.View.sets c.args.view.now) c.args.args.now in
    let ms : List Product = c.deref-product-items.result.now in
    let ks : List Product = c.args.high.now.products.items in
    let opposite : AreOpposite ms ks = subst (λ l. AreOpposite l ks) (sym c.deref-product-items.ensures.value) c.requires.opposite in
    high_small S ms ks c.loop-product.product-index (to_z w64 c.loop-product.low_sum-bits) (to_z w64 c.loop-product.high_sum-bits) (total_of S c.args.low.now)
    (total_of S c.args.high.now) opposite c.loop-product.invariant c.loop-product-test.false
