use Rattle.std.proofs.Common.{◌≤◌, ◌+◌, ◌-◌, ◌&&◌, length, drop}
use Rattle.fd_language.specs.declared.TheConstants.{INFINITY}
use Rattle.domain_ranges.specs.Spans.{within}
use Rattle.domain_ranges.proofs.Intersection.{Meeting}
use Rattle.domain_ranges.proofs.intervals.meet_all.Given as goal

abbrev pub invariant-meeting : goal.invariant-meeting
invariant-meeting l = record {
  first : l.i ≤ length l.a;
  second : l.j ≤ length l.b;
  capacity : 2 ≤ l.list.capacity;
  state : Meeting INFINITY (λ n. within l.a n && within l.b n) l.list.items (drop l.i l.a) (drop l.j l.b);
}

abbrev pub decreases-meeting : goal.decreases-meeting
decreases-meeting l = (length l.a - l.i) + (length l.b - l.j)
