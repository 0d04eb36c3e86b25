use Rattle.std.proofs.Common.{ℕ, ◌<◌, get_or}
use Rattle.range_code.specs.declared.form.Product.{Product}
use Rattle.range_code.specs.Forms.{IsOpposite}
use Rattle.range_code.proofs.form.are_opposite.Given as goal

abbrev pub invariant-loop-i : goal.invariant-loop-i
invariant-loop-i l = (k : ℕ) (d : Product) → k < l.i → IsOpposite (get_or l.a k d) (get_or l.b k d)
