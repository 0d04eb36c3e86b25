use Rattle.std.proofs.Common.{◌≡◌, ℕ, suc, ◌<◌, Some, slice_get}
use Rattle.wam_code.specs.declared.instruction.Key.{Key}
use Rattle.wam_code.specs.Keys.{IsBelow}
use Rattle.wam_code.proofs.sorted_tables.rises.Given as goal

abbrev pub invariant-loop-i : goal.invariant-loop-i
invariant-loop-i l = (k : ℕ) (x y : Key × ℕ) → suc k < l.i → slice_get l.table k ≡ Some x → slice_get l.table (suc k) ≡ Some y → IsBelow x.0 y.0
