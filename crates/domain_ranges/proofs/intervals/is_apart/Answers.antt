use Rattle.std.proofs.Common.{arith, subst, sym, drop_of_length-le}
use Rattle.fd_language.specs.declared.TheConstants.{INFINITY}
use Rattle.domain_ranges.specs.Spans.{IsSpans}
use Rattle.domain_ranges.proofs.StackedSets.{apart_more, interval_high}
use Rattle.domain_ranges.proofs.intervals.is_apart.Goals as goal

pub loop-span-preserved : goal.loop-span-preserved
loop-span-preserved c = record {
  low = let h = interval_high c.loop-span.span-index c.args.spans.now c.loop-span-test.true c.requires in omega arith;
  state = apart_more c.loop-span.span-index c.loop-span.from c.args.spans.now c.loop-span-test.true c.requires c.if-span-from.false c.loop-span.invariant.state;
}

pub returns : goal.returns
returns c = λ _. c.loop-span.invariant.state (subst (IsSpans c.loop-span.from INFINITY) (sym (drop_of_length-le c.args.spans.now c.loop-span-test.false)) tt)
