use Rattle.std.proofs.Common.{◌≡◌, take}
use Rattle.domain_ranges.proofs.Spans.{count}
use Rattle.domain_ranges.proofs.intervals.count.Given as goal

abbrev pub invariant-loop-span : goal.invariant-loop-span
invariant-loop-span l = l.count ≡ count (take l.span-index l.spans)
