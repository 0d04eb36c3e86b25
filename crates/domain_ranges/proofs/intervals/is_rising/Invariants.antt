use Rattle.std.proofs.Common.{drop}
use Rattle.domain_ranges.specs.StackedSets.{AreRising}
use Rattle.domain_ranges.proofs.intervals.is_rising.Given as goal

abbrev pub invariant-loop-span : goal.invariant-loop-span
invariant-loop-span l = AreRising l.from (drop l.span-index l.spans) → AreRising 0 l.spans
