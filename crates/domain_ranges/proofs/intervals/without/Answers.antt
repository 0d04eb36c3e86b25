use Rattle.std.proofs.Common.{subst, sym, ap, ◌∙◌, ◌≤◌, ◌<◌, ◌⊎◌, inl, inr, ◌+◌, ◌++◌, drop, get_or, length, arith}
use Rattle.std.proofs.lemmas.Bool.{ltb-true, ltb-false}
use Rattle.fd_language.specs.declared.TheConstants.{INFINITY}
use Rattle.domain_ranges.specs.Spans.{gap}
use Rattle.domain_ranges.proofs.Removal.{Cutting, kept_whole, parted, whole_many, first_many, last_many, cutting_next, cutting_set}
use Rattle.domain_ranges.proofs.Outcomes.{on_err}
use Rattle.domain_ranges.proofs.intervals.without.Goals.{then-n-span, else-n-span, then-span-n+in_ok-push, else-span-n+in_ok-push_gap+in_ok-push_gap-2}
use Rattle.domain_ranges.proofs.intervals.without.Goals as goal

pub returns-in_err-push-clause-no_memory : goal.returns-in_err-push-clause-no_memory
returns-in_err-push-clause-no_memory c =
    let x = get_or c.args.spans.now c.loop-span.span-index (0, 0) in
    let beside : (c.args.n < x.0) ⊎ (x.1 < c.args.n) = elim c.if-n-span.branch [
      | then-n-span w ↦ inl w.if-n-span.true
      | else-n-span w ↦ inr (ltb-true _ _ (sym w.value-is ∙ c.if-span-n.true))
    ] in
    on_err c.from_residual.result _ (whole_many INFINITY c.args.spans.now c.args.n c.loop-span.list.items x (drop (c.loop-span.span-index + 1) c.args.spans.now)
    (cutting_next INFINITY c.args.spans.now c.args.n c.loop-span.list.items c.loop-span.span-index c.loop-span.invariant.state c.loop-span-test.true) beside c.in_err-push.ensures.no_memory)

pub returns-in_err-push_gap-clause-no_memory : goal.returns-in_err-push_gap-clause-no_memory
returns-in_err-push_gap-clause-no_memory c =
    let x = get_or c.args.spans.now c.loop-span.span-index (0, 0) in
    let high : c.args.n ≤ x.1 = elim c.if-n-span.branch [
      | then-n-span w ↦ absurd (let l = ltb-false _ _ (sym w.value-is ∙ c.if-span-n.false) in let g = w.if-n-span.true in omega arith)
      | else-n-span w ↦ ltb-false _ _ (sym w.value-is ∙ c.if-span-n.false)
    ] in
    on_err c.from_residual-in_err-push_gap.result _ (first_many INFINITY c.args.spans.now c.args.n c.loop-span.list.items x (drop (c.loop-span.span-index + 1) c.args.spans.now)
    (cutting_next INFINITY c.args.spans.now c.args.n c.loop-span.list.items c.loop-span.span-index c.loop-span.invariant.state c.loop-span-test.true)
    c.in_err-push_gap.ensures.some high c.in_err-push_gap.ensures.no_memory)

pub returns-in_err-push_gap-2-clause-no_memory : goal.returns-in_err-push_gap-2-clause-no_memory
returns-in_err-push_gap-2-clause-no_memory c =
    let x = get_or c.args.spans.now c.loop-span.span-index (0, 0) in
    let low : x.0 ≤ c.args.n = elim c.if-n-span.branch [
      | then-n-span w ↦ absurd (let l = ltb-false _ _ (sym w.value-is ∙ c.if-span-n.false) in let g = w.if-n-span.true in omega arith)
      | else-n-span w ↦ w.if-n-span.false
    ] in
    on_err c.from_residual-in_err-push_gap-2.result _ (last_many INFINITY c.args.spans.now c.args.n c.loop-span.list.items x (drop (c.loop-span.span-index + 1) c.args.spans.now)
    (cutting_next INFINITY c.args.spans.now c.args.n c.loop-span.list.items c.loop-span.span-index c.loop-span.invariant.state c.loop-span-test.true) low c.in_err-push_gap-2.ensures.some
    (subst (λ l. 2 ≤ length l) c.in_ok-push_gap.ensures.ok c.in_err-push_gap-2.ensures.no_memory))

pub loop-span-preserved : goal.loop-span-preserved
loop-span-preserved c =
    let x = get_or c.args.spans.now c.loop-span.span-index (0, 0) in
    let rest = drop (c.loop-span.span-index + 1) c.args.spans.now in
    let here = cutting_next INFINITY c.args.spans.now c.args.n c.loop-span.list.items c.loop-span.span-index c.loop-span.invariant.state c.loop-span-test.true in
    record {
      capacity = elim c.if-span-n.branch [
        | then-span-n+in_ok-push w ↦ subst (λ l. 2 ≤ l.capacity) (sym w.list-is) w.in_ok-push.ensures.capacity
        | else-span-n+in_ok-push_gap+in_ok-push_gap-2 w ↦ subst (λ l. 2 ≤ l.capacity) (sym w.list-is) w.in_ok-push_gap-2.ensures.capacity
      ];
      state = elim c.if-span-n.branch [
        | then-span-n+in_ok-push w ↦
            let beside : (c.args.n < x.0) ⊎ (x.1 < c.args.n) = elim c.if-n-span.branch [
              | then-n-span v ↦ inl v.if-n-span.true
              | else-n-span v ↦ inr (ltb-true _ _ (sym v.value-is ∙ w.if-span-n.true))
            ] in
            subst (λ l. Cutting INFINITY c.args.spans.now c.args.n l rest) (sym (ap (λ l. l.items) w.list-is ∙ w.in_ok-push.ensures.ok))
            (kept_whole INFINITY c.args.spans.now c.args.n c.loop-span.list.items x rest here beside)
        | else-span-n+in_ok-push_gap+in_ok-push_gap-2 w ↦
            let inside : (x.0 ≤ c.args.n) × (c.args.n ≤ x.1) = elim c.if-n-span.branch [
              | then-n-span v ↦ absurd (let l = ltb-false _ _ (sym v.value-is ∙ w.if-span-n.false) in let g = v.if-n-span.true in omega arith)
              | else-n-span v ↦ (v.if-n-span.false, ltb-false _ _ (sym v.value-is ∙ w.if-span-n.false))
            ] in
            subst (λ l. Cutting INFINITY c.args.spans.now c.args.n l rest)
            (sym (ap (λ l. l.items) w.list-is ∙ (w.in_ok-push_gap-2.ensures.ok ∙ ap (λ l. l ++ gap (c.args.n + 1) (x.1 + 1)) w.in_ok-push_gap.ensures.ok)))
            (parted INFINITY c.args.spans.now c.args.n c.loop-span.list.items x rest here inside.0 inside.1)
      ];
    }

pub returns-clause-set : goal.returns-clause-set
returns-clause-set c = cutting_set INFINITY c.args.spans.now c.args.n c.loop-span.list.items c.loop-span.span-index c.loop-span.invariant.state c.loop-span-test.false
