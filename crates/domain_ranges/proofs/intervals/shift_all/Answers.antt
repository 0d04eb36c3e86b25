use Rattle.std.proofs.Common.{subst, sym, ap, ◌∙◌, ◌+◌, ◌≡◌, ◌∷◌, [], ◌++◌, drop, get_or, to_z-of_z, ◌≤◌, arith}
use Rattle.fd_language.specs.declared.TheConstants.{INFINITY}
use Rattle.domain_ranges.proofs.Spans.{spans_at}
use Rattle.domain_ranges.proofs.Shifts.{Shifting, IsMoved, shift_some, shift_none, shift_many, shift_done, code_sum, code_comes}
use Rattle.domain_ranges.proofs.Outcomes.{on_err}
use Rattle.domain_ranges.proofs.intervals.shift_all.Goals.{in-Some+in_ok-push, in_default}
use Rattle.domain_ranges.proofs.intervals.shift_all.Goals as goal

pub returns-in_err-push-clause-no_memory : goal.returns-in_err-push-clause-no_memory
returns-in_err-push-clause-no_memory c =
    let t = subst (λ z. Shifting INFINITY z c.args.spans.now c.loop-span.list.items (drop c.loop-span.span-index c.args.spans.now)) (to_z-of_z c.ranges.c) c.loop-span.invariant.state in
    let x = get_or c.args.spans.now c.loop-span.span-index (0, 0) in
    let at = spans_at 0 INFINITY c.loop-span.span-index c.args.spans.now (0, 0) c.requires.list c.loop-span-test.true in
    let low = code_sum x.0 c.args.c (omega arith) c.requires.low c.requires.high in
    let high = code_sum x.1 c.args.c (omega arith) c.requires.low c.requires.high in
    let moved : IsMoved INFINITY c.args.c x c.in-Some.moved = record {
      order = c.in-Some.ensures.order;
      high = c.in-Some.ensures.high;
      same = λ n h. c.in-Some.ensures.same n h ∙ code_comes x c.args.c _ _ n low high;
    } in
    on_err c.from_residual.result _ (shift_many INFINITY c.args.c c.args.spans.now c.loop-span.list.items c.loop-span.span-index c.in-Some.moved t
    c.loop-span-test.true moved c.in_err-push.ensures.no_memory)

pub loop-span-preserved : goal.loop-span-preserved
loop-span-preserved c =
    let t = subst (λ z. Shifting INFINITY z c.args.spans.now c.loop-span.list.items (drop c.loop-span.span-index c.args.spans.now)) (to_z-of_z c.ranges.c) c.loop-span.invariant.state in
    let x = get_or c.args.spans.now c.loop-span.span-index (0, 0) in
    let at = spans_at 0 INFINITY c.loop-span.span-index c.args.spans.now (0, 0) c.requires.list c.loop-span-test.true in
    let low = code_sum x.0 c.args.c (omega arith) c.requires.low c.requires.high in
    let high = code_sum x.1 c.args.c (omega arith) c.requires.low c.requires.high in
    record {
      capacity = elim c.match-cut.branch [
        | in-Some+in_ok-push w ↦ subst (λ l. 2 ≤ l.capacity) (sym w.list-is) w.in_ok-push.ensures.capacity
        | in_default w ↦ subst (λ l. 2 ≤ l.capacity) (sym w.list-is) c.loop-span.invariant.capacity
      ];
      state = subst (λ z. Shifting INFINITY z c.args.spans.now c.match-cut.list.items (drop (c.loop-span.span-index + 1) c.args.spans.now)) (sym (to_z-of_z c.ranges.c)) (elim c.match-cut.branch [
        | in-Some+in_ok-push w ↦
            let moved : IsMoved INFINITY c.args.c x w.in-Some.moved = record {
              order = w.in-Some.ensures.order;
              high = w.in-Some.ensures.high;
              same = λ n h. w.in-Some.ensures.same n h ∙ code_comes x c.args.c _ _ n low high;
            } in
            let items : c.match-cut.list.items ≡ c.loop-span.list.items ++ w.in-Some.moved ∷ [] = ap (λ l. l.items) w.list-is ∙ w.in_ok-push.ensures.ok in
            subst (λ l. Shifting INFINITY c.args.c c.args.spans.now l (drop (c.loop-span.span-index + 1) c.args.spans.now)) (sym items)
            (shift_some INFINITY c.args.c c.args.spans.now c.loop-span.list.items c.loop-span.span-index w.in-Some.moved t c.loop-span-test.true moved)
        | in_default w ↦
            subst (λ l. Shifting INFINITY c.args.c c.args.spans.now l.items (drop (c.loop-span.span-index + 1) c.args.spans.now)) (sym w.list-is)
            (shift_none INFINITY c.args.c c.args.spans.now c.loop-span.list.items c.loop-span.span-index t c.loop-span-test.true
            (λ n h. sym (code_comes x c.args.c _ _ n low high) ∙ w.in_default.ensures.none n h))
      ]);
    }

pub returns-clause-set : goal.returns-clause-set
returns-clause-set c =
    let t = subst (λ z. Shifting INFINITY z c.args.spans.now c.loop-span.list.items (drop c.loop-span.span-index c.args.spans.now)) (to_z-of_z c.ranges.c) c.loop-span.invariant.state in
    shift_done INFINITY c.args.c c.args.spans.now c.loop-span.list.items c.loop-span.span-index t c.loop-span-test.false
