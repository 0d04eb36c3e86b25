use Rattle.std.proofs.Common.{ℕ, ◌<◌, get_or}
use Rattle.term_pool.specs.declared.AtomId.{AtomId}
use Rattle.listing_reader.specs.NumberBounds.{IsNumber}
use Rattle.held_code.proofs.code.hold_names.Given as goal

abbrev pub invariant-loop-name : goal.invariant-loop-name
invariant-loop-name l = (k : ℕ) (d : AtomId) → k < l.name-index → IsNumber (get_or l.names k d).number
