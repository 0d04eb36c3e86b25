use Rattle.std.proofs.Common.{◌≤◌, ◌*◌, drop}
use Rattle.fd_language.specs.declared.TheConstants.{INFINITY}
use Rattle.domain_ranges.specs.Spans.{within}
use Rattle.domain_ranges.proofs.OpenInterval.{Joining}
use Rattle.domain_ranges.proofs.intervals.divide_all.Given as goal

abbrev pub invariant-loop-span : goal.invariant-loop-span
invariant-loop-span l = record {
  capacity : 2 ≤ l.list.capacity;
  state : Joining INFINITY (λ n. within l.spans (n * l.c)) l.list.items l.last (λ n. within (drop l.span-index l.spans) (n * l.c));
}
