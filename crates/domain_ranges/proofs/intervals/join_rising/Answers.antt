use Rattle.std.proofs.Common.{rules, subst, sym, ap, ◌∙◌, drop, ◌+◌, ◌≡◌, ◌++◌, Some, get_or}
use Rattle.std.proofs.lemmas.Result.{IfOk-weaker}
use Rattle.fd_language.specs.declared.TheConstants.{INFINITY}
use Rattle.domain_ranges.specs.Spans.{within, IsSpans, members, listed, joined}
use Rattle.domain_ranges.specs.StackedSets.{numbers}
use Rattle.domain_ranges.proofs.OpenInterval.{Joining, join_more, join_done, close_spans}
use Rattle.domain_ranges.proofs.StackedSets.{first_at, no_more}
use Rattle.domain_ranges.proofs.intervals.join_rising.Goals as goal

pub loop-span-preserved : goal.loop-span-preserved
loop-span-preserved c = record {
  capacity = search rules;
  state = subst (λ s. Joining INFINITY (within c.args.spans.now) c.join.new.list.items (Some s) (within (drop (c.loop-span.span-index + 1) c.args.spans.now))) (sym c.in_ok-join.ensures.joined)
      (subst (λ l. Joining INFINITY (within c.args.spans.now) l (Some (joined c.loop-span.last (get_or c.args.spans.now c.loop-span.span-index (0, 0))))
      (within (drop (c.loop-span.span-index + 1) c.args.spans.now))) (sym c.in_ok-join.ensures.written)
      (join_more INFINITY (within c.args.spans.now) c.loop-span.list.items c.loop-span.last (within (drop c.loop-span.span-index c.args.spans.now))
      (within (drop (c.loop-span.span-index + 1) c.args.spans.now)) (get_or c.args.spans.now c.loop-span.span-index (0, 0))
      c.loop-span.invariant.state (first_at c.loop-span.span-index c.args.spans.now c.loop-span-test.true c.requires.intervals c.requires.rising)));
}

pub returns-clause-spans : goal.returns-clause-spans
returns-clause-spans c = IfOk-weaker c.close.result (λ w. w.items ≡ c.loop-span.list.items ++ listed c.loop-span.last) (λ w. IsSpans 0 INFINITY w.items)
    (λ w e. subst (IsSpans 0 INFINITY) (sym e) (close_spans INFINITY (within c.args.spans.now) c.loop-span.list.items c.loop-span.last _
    c.loop-span.invariant.state (λ n h. no_more c.loop-span.span-index n c.args.spans.now c.loop-span-test.false)))
    c.close.ensures.all

pub returns-clause-set : goal.returns-clause-set
returns-clause-set c = IfOk-weaker c.close.result (λ w. w.items ≡ c.loop-span.list.items ++ listed c.loop-span.last) (λ w. members w.items ≡ numbers c.args.spans.now)
    (λ w e. ap members e ∙ join_done INFINITY (within c.args.spans.now) c.loop-span.list.items c.loop-span.last _ c.loop-span.invariant.state
    (λ n h. no_more c.loop-span.span-index n c.args.spans.now c.loop-span-test.false))
    c.close.ensures.all
