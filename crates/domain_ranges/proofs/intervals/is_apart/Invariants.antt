use Rattle.std.proofs.Common.{◌≤◌, ◌+◌, drop}
use Rattle.fd_language.specs.declared.TheConstants.{INFINITY}
use Rattle.domain_ranges.specs.Spans.{IsSpans}
use Rattle.domain_ranges.proofs.intervals.is_apart.Given as goal

abbrev pub invariant-loop-span : goal.invariant-loop-span
invariant-loop-span l = record {
  low : l.from ≤ INFINITY + 2;
  state : IsSpans l.from INFINITY (drop l.span-index l.spans) → IsSpans 0 INFINITY l.spans;
}
