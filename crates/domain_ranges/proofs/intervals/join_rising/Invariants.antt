use Rattle.std.proofs.Common.{◌≤◌, drop}
use Rattle.fd_language.specs.declared.TheConstants.{INFINITY}
use Rattle.domain_ranges.specs.Spans.{within}
use Rattle.domain_ranges.proofs.OpenInterval.{Joining}
use Rattle.domain_ranges.proofs.intervals.join_rising.Given as goal

abbrev pub invariant-loop-span : goal.invariant-loop-span
invariant-loop-span l = record {
  capacity : 2 ≤ l.list.capacity;
  state : Joining INFINITY (within l.spans) l.list.items l.last (within (drop l.span-index l.spans));
}
