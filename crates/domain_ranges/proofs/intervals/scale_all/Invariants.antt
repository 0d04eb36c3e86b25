use Rattle.std.proofs.Common.{◌≤◌, ◌+◌, ◌-◌, length, drop}
use Rattle.fd_language.specs.declared.TheConstants.{INFINITY}
use Rattle.domain_ranges.proofs.Multiples.{Scaling}
use Rattle.domain_ranges.proofs.intervals.scale_all.Given as goal

abbrev pub invariant-scaling : goal.invariant-scaling
invariant-scaling l = record {
  place : l.i ≤ length l.spans;
  capacity : 2 ≤ l.list.capacity;
  end : l.next ≤ l.limit + 1;
  state : Scaling INFINITY l.c l.spans l.list.items l.next (drop l.i l.spans);
}

abbrev pub decreases-scaling : goal.decreases-scaling
decreases-scaling l = l.limit + 1 - l.next
