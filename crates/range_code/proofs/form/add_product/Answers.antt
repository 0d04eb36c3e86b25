use Rattle.std.proofs.Common.{rules, arith, ◌≡◌, pos, ◌+ℤ◌, ◌*ℤ◌, SFits, to_z, to_z-of_z}
use mir.ValLaws.{to_z_pos}
use mir.Syntax.{w64}
use Rattle.range_code.proofs.Forms.{product_small, sum_small, fits_small}
use Rattle.range_code.proofs.form.add_product.Goals as goal

pub overflow_add-result : goal.overflow_add-result
overflow_add-result c =
    let f : SFits w64 c.args.sum = c.ranges.sum in
    let h : SFits w64 c.args.product.weight = search rules in
    let e : to_z w64 c.args.end ≡ pos c.args.end = to_z_pos w64 c.args.end (omega (arith, c.requires.limit)) in
    let p : SFits w64 (c.args.product.weight *ℤ pos c.args.end) = fits_small (c.args.product.weight *ℤ pos c.args.end)
    (omega (arith, product_small c.args.product.weight c.args.end c.requires.limit, c.requires.width)) in
    let s : SFits w64 (c.args.sum +ℤ c.args.product.weight *ℤ pos c.args.end) = fits_small (c.args.sum +ℤ c.args.product.weight *ℤ pos c.args.end)
    (sum_small c.args.sum c.args.product.weight c.args.end c.requires.width c.requires.limit) in
    simp (to_z-of_z, e) s

pub returns : goal.returns
returns c =
    let f : SFits w64 c.args.sum = c.ranges.sum in
    let h : SFits w64 c.args.product.weight = search rules in
    let e : to_z w64 c.args.end ≡ pos c.args.end = to_z_pos w64 c.args.end (omega (arith, c.requires.limit)) in
    let p : SFits w64 (c.args.product.weight *ℤ pos c.args.end) = fits_small (c.args.product.weight *ℤ pos c.args.end)
    (omega (arith, product_small c.args.product.weight c.args.end c.requires.limit, c.requires.width)) in
    let s : SFits w64 (c.args.sum +ℤ c.args.product.weight *ℤ pos c.args.end) = fits_small (c.args.sum +ℤ c.args.product.weight *ℤ pos c.args.end)
    (sum_small c.args.sum c.args.product.weight c.args.end c.requires.width c.requires.limit) in
    simp (to_z-of_z, e)
