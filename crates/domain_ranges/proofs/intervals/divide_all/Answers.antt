use Rattle.std.proofs.Common.{subst, sym, ap, ◌∙◌, drop, ◌+◌, ◌*◌, ◌/◌, ◌<◌, ◌≤◌, ◌≡◌, ◌++◌, Some, filter, length, IsSome, get_or}
use Rattle.std.proofs.lemmas.Result.{IfOk-weaker}
use Rattle.fd_language.specs.Family.{universe}
use Rattle.fd_language.specs.declared.TheConstants.{INFINITY}
use Rattle.domain_ranges.specs.Spans.{within, IsSpans, members, interval_count, listed, written, joined}
use Rattle.domain_ranges.proofs.OpenInterval.{Joining, join_more, join_many, join_done, close_many, close_spans}
use Rattle.domain_ranges.proofs.Quotients.{low_at, low_skip, quotient_end}
use Rattle.domain_ranges.proofs.Outcomes.{on_err, on_err_both}
use Rattle.domain_ranges.proofs.intervals.divide_all.Goals.{then-low-high+in_ok-join, else-low-high}
use Rattle.domain_ranges.proofs.intervals.divide_all.Goals as goal

pub returns-in_err-join-clause-no_memory : goal.returns-in_err-join-clause-no_memory
returns-in_err-join-clause-no_memory c = on_err c.from_residual.result _
    (join_many INFINITY (λ n. within c.args.spans.now (n * c.args.c)) c.loop-span.list.items c.loop-span.last
    (λ n. within (drop c.loop-span.span-index c.args.spans.now) (n * c.args.c))
    (λ n. within (drop (c.loop-span.span-index + 1) c.args.spans.now) (n * c.args.c)) (
      c.div_ceil-low.result,
      (get_or c.args.spans.now c.loop-span.span-index (0, 0)).1 / c.args.c,
    )
    c.loop-span.invariant.state (low_at INFINITY c.args.c c.loop-span.span-index c.div_ceil-low.result c.args.spans.now c.requires.divisor c.requires.list
    c.loop-span-test.true c.div_ceil-low.ensures c.if-low-high.true)
    c.in_err-join.ensures.open c.in_err-join.ensures.apart c.in_err-join.ensures.no_memory)

pub loop-span-preserved : goal.loop-span-preserved
loop-span-preserved c = record {
  capacity = elim c.if-low-high.branch [
    | then-low-high+in_ok-join w ↦ subst (λ l. 2 ≤ l.capacity) (sym w.list-is) w.in_ok-join.ensures.capacity
    | else-low-high w ↦ subst (λ l. 2 ≤ l.capacity) (sym w.list-is) c.loop-span.invariant.capacity
  ];
  state = elim c.if-low-high.branch [
    | then-low-high+in_ok-join w ↦
        let first = low_at INFINITY c.args.c c.loop-span.span-index c.div_ceil-low.result c.args.spans.now c.requires.divisor c.requires.list
        c.loop-span-test.true c.div_ceil-low.ensures w.if-low-high.true in
        let more = join_more INFINITY (λ n. within c.args.spans.now (n * c.args.c)) c.loop-span.list.items c.loop-span.last
        (λ n. within (drop c.loop-span.span-index c.args.spans.now) (n * c.args.c))
        (λ n. within (drop (c.loop-span.span-index + 1) c.args.spans.now) (n * c.args.c)) (
          c.div_ceil-low.result,
          (get_or c.args.spans.now c.loop-span.span-index (0, 0)).1 / c.args.c,
        ) c.loop-span.invariant.state first in
        let items : c.if-low-high.list.items ≡ c.loop-span.list.items
        ++ written c.loop-span.last (c.div_ceil-low.result, (get_or c.args.spans.now c.loop-span.span-index (0, 0)).1 / c.args.c) = ap (λ l. l.items)
        w.list-is ∙ w.in_ok-join.ensures.written in
        let last : c.if-low-high.last ≡ Some (joined c.loop-span.last (
          c.div_ceil-low.result,
          (get_or c.args.spans.now c.loop-span.span-index (0, 0)).1 / c.args.c,
        )) = w.last-is ∙ ap (λ s. Some s) w.in_ok-join.ensures.joined in
        subst (λ o. Joining INFINITY (λ n. within c.args.spans.now (n * c.args.c)) c.if-low-high.list.items o
        (λ n. within (drop (c.loop-span.span-index + 1) c.args.spans.now) (n * c.args.c))) (sym last)
        (subst (λ l. Joining INFINITY (λ n. within c.args.spans.now (n * c.args.c)) l
        (Some (joined c.loop-span.last (c.div_ceil-low.result, (get_or c.args.spans.now c.loop-span.span-index (0, 0)).1 / c.args.c)))
        (λ n. within (drop (c.loop-span.span-index + 1) c.args.spans.now) (n * c.args.c))) (sym items) more)
    | else-low-high w ↦
        let same = low_skip INFINITY c.args.c c.loop-span.span-index c.div_ceil-low.result (λ n. within c.args.spans.now (n * c.args.c)) c.loop-span.list.items
        c.loop-span.last c.args.spans.now c.requires.divisor c.loop-span-test.true c.div_ceil-low.ensures w.if-low-high.false c.loop-span.invariant.state in
        subst (λ o. Joining INFINITY (λ n. within c.args.spans.now (n * c.args.c)) c.if-low-high.list.items o
        (λ n. within (drop (c.loop-span.span-index + 1) c.args.spans.now) (n * c.args.c))) (sym w.last-is)
        (subst (λ l. Joining INFINITY (λ n. within c.args.spans.now (n * c.args.c)) l.items c.loop-span.last
        (λ n. within (drop (c.loop-span.span-index + 1) c.args.spans.now) (n * c.args.c))) (sym w.list-is) same)
  ];
}

pub returns-clause-spans : goal.returns-clause-spans
returns-clause-spans c = IfOk-weaker c.close.result (λ w. w.items ≡ c.loop-span.list.items ++ listed c.loop-span.last) (λ w. IsSpans 0 INFINITY w.items)
    (λ w e. subst (IsSpans 0 INFINITY) (sym e) (close_spans INFINITY (λ n. within c.args.spans.now (n * c.args.c)) c.loop-span.list.items c.loop-span.last _
    c.loop-span.invariant.state (λ n h. quotient_end c.args.c c.loop-span.span-index n c.args.spans.now c.loop-span-test.false)))
    c.close.ensures.all

pub returns-clause-set : goal.returns-clause-set
returns-clause-set c = IfOk-weaker c.close.result (λ w. w.items ≡ c.loop-span.list.items ++ listed c.loop-span.last)
    (λ w. members w.items ≡ filter (λ n. within c.args.spans.now (n * c.args.c)) (universe INFINITY))
    (λ w e. ap members e ∙ join_done INFINITY (λ n. within c.args.spans.now (n * c.args.c)) c.loop-span.list.items c.loop-span.last _
    c.loop-span.invariant.state (λ n h. quotient_end c.args.c c.loop-span.span-index n c.args.spans.now c.loop-span-test.false))
    c.close.ensures.all

pub returns-clause-no_memory : goal.returns-clause-no_memory
returns-clause-no_memory c = on_err_both (IsSome c.loop-span.last) (2 ≤ length c.loop-span.list.items)
    (2 < interval_count (filter (λ n. within c.args.spans.now (n * c.args.c)) (universe INFINITY))) c.close.result c.close.ensures.open
    c.close.ensures.no_memory
    (λ h g. close_many INFINITY (λ n. within c.args.spans.now (n * c.args.c)) c.loop-span.list.items c.loop-span.last _ c.loop-span.invariant.state
    (λ n k. quotient_end c.args.c c.loop-span.span-index n c.args.spans.now c.loop-span-test.false) h g)
