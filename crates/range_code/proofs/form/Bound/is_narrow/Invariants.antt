use Rattle.std.proofs.Common.{◌≡◌, ◌<◌, ◌+◌, ◌-◌, ◌^◌, drop, nat_abs}
use Rattle.range_code.specs.Forms.{width_of}
use Rattle.range_code.proofs.form.Bound.is_narrow.Given as goal

abbrev pub invariant-loop-product : goal.invariant-loop-product
invariant-loop-product l = l.width < 2 ^ 64 - 1 → l.width + width_of (drop l.product-index l.self.products.items) ≡ nat_abs l.self.constant + width_of l.self.products.items
