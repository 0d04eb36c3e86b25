use Rattle.std.proofs.Common.{ℕ, ◌<◌, get_or, All, IsTrue}
use Rattle.fd_language.specs.declared.TheConstants.{INFINITY}
use Rattle.fd_language.specs.PostfixRanges.{nodes_of}
use Rattle.fd_language.specs.RangeVerdict.{is_accepted}
use Rattle.range_code.specs.Slots.{in_slots}
use Rattle.listing_reader.specs.NumberBounds.{HasSize}
use Rattle.held_code.proofs.ranges.hold_ranges.Given as goal

abbrev pub invariant-loop-index : goal.invariant-loop-index
invariant-loop-index l =
    record {
      nodes : (k : ℕ) (d : _) → k < l.index → All HasSize (nodes_of (in_slots (get_or l.ranges k d).value));
      accepted : (k : ℕ) (d : _) → k < l.index → IsTrue (is_accepted INFINITY (get_or l.ranges k d).value);
    }
