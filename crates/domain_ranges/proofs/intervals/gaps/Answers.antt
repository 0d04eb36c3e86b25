use Rattle.std.proofs.Common.{rules, subst, sym, ap, ◌∙◌, ◌+◌, drop, get_or}
use Rattle.fd_language.specs.declared.TheConstants.{INFINITY}
use Rattle.domain_ranges.specs.Spans.{IsSpans, members}
use Rattle.domain_ranges.proofs.Gaps.{Gapped, gapped_more, gapped_next, gapped_end, gap_many, last_many, gapped_set, gapped_spans}
use Rattle.domain_ranges.proofs.Outcomes.{on_err}
use Rattle.domain_ranges.proofs.intervals.gaps.Goals as goal

pub returns-in_err-push_gap-clause-no_memory : goal.returns-in_err-push_gap-clause-no_memory
returns-in_err-push_gap-clause-no_memory c = on_err c.from_residual.result _
    (gap_many INFINITY c.args.spans.now c.loop-span.list.items c.loop-span.next (get_or c.args.spans.now c.loop-span.span-index (0, 0)) (drop (c.loop-span.span-index + 1) c.args.spans.now)
    (gapped_next INFINITY c.args.spans.now c.loop-span.list.items c.loop-span.next c.loop-span.span-index c.loop-span.invariant.state c.loop-span-test.true)
    c.in_err-push_gap.ensures.some c.in_err-push_gap.ensures.no_memory)

pub loop-span-preserved : goal.loop-span-preserved
loop-span-preserved c = record {
  capacity = search rules;
  state = subst (λ l. Gapped INFINITY c.args.spans.now l ((get_or c.args.spans.now c.loop-span.span-index (0, 0)).1 + 1)
      (drop (c.loop-span.span-index + 1) c.args.spans.now)) (sym c.in_ok-push_gap.ensures.ok)
      (gapped_more INFINITY c.args.spans.now c.loop-span.list.items c.loop-span.next (get_or c.args.spans.now c.loop-span.span-index (0, 0)) (drop (c.loop-span.span-index + 1) c.args.spans.now)
      (gapped_next INFINITY c.args.spans.now c.loop-span.list.items c.loop-span.next c.loop-span.span-index c.loop-span.invariant.state c.loop-span-test.true));
}

pub returns-in_err-push_gap-2-clause-no_memory : goal.returns-in_err-push_gap-2-clause-no_memory
returns-in_err-push_gap-2-clause-no_memory c = on_err _ _
    (last_many INFINITY c.args.spans.now c.loop-span.list.items c.loop-span.next
    (gapped_end INFINITY c.args.spans.now c.loop-span.list.items c.loop-span.next c.loop-span.span-index c.loop-span.invariant.state c.loop-span-test.false)
    c.in_err-push_gap-2.ensures.some c.in_err-push_gap-2.ensures.no_memory)

pub returns-clause-spans : goal.returns-clause-spans
returns-clause-spans c = subst (IsSpans 0 INFINITY) (sym c.in_ok-push_gap-2.ensures.ok) (gapped_spans INFINITY c.args.spans.now c.loop-span.list.items c.loop-span.next
    (gapped_end INFINITY c.args.spans.now c.loop-span.list.items c.loop-span.next c.loop-span.span-index c.loop-span.invariant.state c.loop-span-test.false))

pub returns-clause-set : goal.returns-clause-set
returns-clause-set c = ap members c.in_ok-push_gap-2.ensures.ok ∙ gapped_set INFINITY c.args.spans.now c.loop-span.list.items c.loop-span.next
    (gapped_end INFINITY c.args.spans.now c.loop-span.list.items c.loop-span.next c.loop-span.span-index c.loop-span.invariant.state c.loop-span-test.false)
