use Rattle.std.proofs.Common.{◌≤◌, drop}
use Rattle.fd_language.specs.declared.TheConstants.{INFINITY}
use Rattle.domain_ranges.proofs.Removal.{Cutting}
use Rattle.domain_ranges.proofs.intervals.without.Given as goal

abbrev pub invariant-loop-span : goal.invariant-loop-span
invariant-loop-span l = record {
  capacity : 2 ≤ l.list.capacity;
  state : Cutting INFINITY l.spans l.n l.list.items (drop l.span-index l.spans);
}
