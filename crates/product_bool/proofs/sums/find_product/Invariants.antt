use Rattle.std.proofs.Common.{take}
use Rattle.product_bool.specs.Sums.{AreApart}
use Rattle.product_bool.proofs.sums.find_product.Given as goal

abbrev pub invariant-loop-index : goal.invariant-loop-index
invariant-loop-index l = AreApart l.variable (take l.index l.terms)
