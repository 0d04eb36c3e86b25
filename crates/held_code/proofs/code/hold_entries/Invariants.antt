use Rattle.std.proofs.Common.{ℕ, ◌<◌, get_or}
use Rattle.wam_code.specs.declared.parts.Entry.{Entry}
use Rattle.listing_reader.specs.NumberBounds.{IsSmallEntry}
use Rattle.held_code.proofs.code.hold_entries.Given as goal

abbrev pub invariant-loop-entry : goal.invariant-loop-entry
invariant-loop-entry l = (k : ℕ) (d : Entry) → k < l.entry-index → IsSmallEntry (get_or l.entries k d)
