use Rattle.std.proofs.Common.{◌≤◌, drop}
use Rattle.fd_language.specs.declared.TheConstants.{INFINITY}
use Rattle.domain_ranges.proofs.Gaps.{Gapped}
use Rattle.domain_ranges.proofs.intervals.gaps.Given as goal

abbrev pub invariant-loop-span : goal.invariant-loop-span
invariant-loop-span l = record {
  capacity : 2 ≤ l.list.capacity;
  state : Gapped INFINITY l.spans l.list.items l.next (drop l.span-index l.spans);
}
