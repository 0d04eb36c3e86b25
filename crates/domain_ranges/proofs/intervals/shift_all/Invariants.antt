use Rattle.std.proofs.Common.{◌≤◌, drop}
use Rattle.fd_language.specs.declared.TheConstants.{INFINITY}
use Rattle.domain_ranges.proofs.Shifts.{Shifting}
use Rattle.domain_ranges.proofs.intervals.shift_all.Given as goal

abbrev pub invariant-loop-span : goal.invariant-loop-span
invariant-loop-span l = record {
  capacity : 2 ≤ l.list.capacity;
  state : Shifting INFINITY l.c l.spans l.list.items (drop l.span-index l.spans);
}
