use Rattle.std.proofs.Common.{arith, refl, sym, ◌∙◌, ap, take_all}
use Rattle.domain_ranges.proofs.Spans.{counted, Counted, count}
use Rattle.domain_ranges.proofs.Members.{length_members}
use Rattle.fd_language.specs.declared.TheConstants.{INFINITY}
use Rattle.domain_ranges.proofs.intervals.count.Goals as goal

pub overflow_add-count : goal.overflow_add-count
overflow_add-count c = let k : Counted INFINITY c.args.spans.now c.loop-span.span-index c.loop-span.count = counted INFINITY c.args.spans.now c.args.spans.now
    c.loop-span.span-index c.loop-span.count c.requires refl c.loop-span-test.true c.loop-span.invariant in omega arith

pub overflow_sub-count : goal.overflow_sub-count
overflow_sub-count c = let k : Counted INFINITY c.args.spans.now c.loop-span.span-index c.loop-span.count = counted INFINITY c.args.spans.now c.args.spans.now
    c.loop-span.span-index c.loop-span.count c.requires refl c.loop-span-test.true c.loop-span.invariant in omega arith

pub overflow_add-count-in-loop-span : goal.overflow_add-count-in-loop-span
overflow_add-count-in-loop-span c = let k : Counted INFINITY c.args.spans.now c.loop-span.span-index c.loop-span.count = counted INFINITY c.args.spans.now
    c.args.spans.now c.loop-span.span-index c.loop-span.count c.requires refl c.loop-span-test.true c.loop-span.invariant in omega arith

pub loop-span-preserved : goal.loop-span-preserved
loop-span-preserved c = let k : Counted INFINITY c.args.spans.now c.loop-span.span-index c.loop-span.count = counted INFINITY c.args.spans.now c.args.spans.now
    c.loop-span.span-index c.loop-span.count c.requires refl c.loop-span-test.true c.loop-span.invariant in k.more

pub returns : goal.returns
returns c = c.loop-span.invariant ∙ ap count (take_all _ _ c.loop-span-test.false) ∙ sym (length_members c.args.spans.now)
