use Rattle.std.proofs.Common.{◌≤◌, ◌+◌, ◌-◌, length, drop}
use Rattle.domain_ranges.proofs.Inclusion.{Comparing}
use Rattle.domain_ranges.proofs.intervals.is_inside.Given as goal

abbrev pub invariant-comparing : goal.invariant-comparing
invariant-comparing l = record {
  first : l.i ≤ length l.a;
  second : l.j ≤ length l.b;
  state : Comparing l.a l.b (drop l.i l.a) (drop l.j l.b);
}

abbrev pub decreases-comparing : goal.decreases-comparing
decreases-comparing l = (length l.a - l.i) + (length l.b - l.j)
