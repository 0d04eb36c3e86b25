use Rattle.std.proofs.Common.{ℕ, ◌<◌, get_or}
use Rattle.wam_code.specs.declared.instruction.Code.{Code}
use Rattle.listing_reader.specs.NumberBounds.{IsSmallCode}
use Rattle.held_code.proofs.code.hold_code.Given as goal

abbrev pub invariant-loop-code : goal.invariant-loop-code
invariant-loop-code l = (k : ℕ) (d : Code) → k < l.code-index → IsSmallCode (get_or l.codes k d)
