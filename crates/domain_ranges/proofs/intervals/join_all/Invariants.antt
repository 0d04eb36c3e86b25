use Rattle.std.proofs.Common.{◌≤◌, ◌+◌, ◌-◌, ◌||◌, length, drop}
use Rattle.fd_language.specs.declared.TheConstants.{INFINITY}
use Rattle.domain_ranges.specs.Spans.{within}
use Rattle.domain_ranges.proofs.OpenInterval.{Joining}
use Rattle.domain_ranges.proofs.Union.{in_either}
use Rattle.domain_ranges.proofs.intervals.join_all.Given as goal

abbrev pub invariant-joining : goal.invariant-joining
invariant-joining l = record {
  first : l.i ≤ length l.a;
  second : l.j ≤ length l.b;
  capacity : 2 ≤ l.list.capacity;
  state : Joining INFINITY (λ n. within l.a n || within l.b n) l.list.items l.last (in_either (drop l.i l.a) (drop l.j l.b));
}

abbrev pub decreases-joining : goal.decreases-joining
decreases-joining l = (length l.a - l.i) + (length l.b - l.j)
