use Rattle.std.proofs.Common.{◌≡◌, ◌++◌, take, map}
use Rattle.fd_language.specs.PostfixRanges.{nodes_of}
use Rattle.range_code.specs.Slots.{in_slots}
use Rattle.code_listing.specs.Words.{line_bytes}
use Rattle.code_listing.specs.Texts.{nodes_text}
use Rattle.code_listing.proofs.write.put_ranges.Given as goal

abbrev pub invariant-loop-index : goal.invariant-loop-index
invariant-loop-index l = l.text.items ≡ l.initial.text.items ++ line_bytes (map (λ r. nodes_text (nodes_of (in_slots r.value))) (take l.index l.ranges))
