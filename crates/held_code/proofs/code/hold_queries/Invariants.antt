use Rattle.std.proofs.Common.{ℕ, ◌<◌, get_or}
use Rattle.wam_code.specs.declared.parts.QueryEntry.{QueryEntry}
use Rattle.wam_code.specs.Area.{span_of}
use Rattle.listing_reader.specs.NumberBounds.{IsSmallSpan}
use Rattle.held_code.proofs.code.hold_queries.Given as goal

abbrev pub invariant-loop-index : goal.invariant-loop-index
invariant-loop-index l = (k : ℕ) (d : QueryEntry) → k < l.index → IsSmallSpan (span_of (get_or l.queries k d))
