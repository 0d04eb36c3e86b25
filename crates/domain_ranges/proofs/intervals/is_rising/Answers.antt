use Rattle.std.proofs.Common.{subst, sym, drop_of_length-le}
use Rattle.domain_ranges.specs.StackedSets.{AreRising}
use Rattle.domain_ranges.proofs.StackedSets.{rising_more}
use Rattle.domain_ranges.proofs.intervals.is_rising.Goals as goal

pub loop-span-preserved : goal.loop-span-preserved
loop-span-preserved c = rising_more c.loop-span.span-index c.loop-span.from c.args.spans.now c.loop-span-test.true c.if-span-from.false c.loop-span.invariant

pub returns : goal.returns
returns c = λ _. c.loop-span.invariant (subst (AreRising c.loop-span.from) (sym (drop_of_length-le c.args.spans.now c.loop-span-test.false)) tt)
