use Rattle.std.proofs.Common.{ℕ, ◌<◌, get_or}
use Rattle.wam_code.specs.declared.instruction.Key.{Key}
use Rattle.listing_reader.specs.NumberBounds.{IsSmallKey, IsNumber}
use Rattle.held_code.proofs.code.hold_table.Given as goal

abbrev pub invariant-loop-row : goal.invariant-loop-row
invariant-loop-row l = (k : ℕ) (d : (Key × ℕ)) → k < l.row-index → IsSmallKey (get_or l.table k d).0 × IsNumber (get_or l.table k d).1
