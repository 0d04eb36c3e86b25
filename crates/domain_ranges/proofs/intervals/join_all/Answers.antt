use Rattle.std.proofs.Common.{rules, subst, sym, ap, ◌∙◌, drop, ◌+◌, ◌<◌, ◌≤◌, ◌≡◌, ◌||◌, ◌++◌, Some, filter, length, IsSome, arith, get_or}
use Rattle.std.proofs.lemmas.Result.{IfOk-weaker}
use Rattle.fd_language.specs.Family.{universe}
use Rattle.fd_language.specs.declared.TheConstants.{INFINITY}
use Rattle.domain_ranges.specs.Spans.{within, IsSpans, members, interval_count, listed, joined}
use Rattle.domain_ranges.proofs.OpenInterval.{Joining, join_more, join_many, join_done, close_many, close_spans}
use Rattle.domain_ranges.proofs.Union.{in_either, first_left, first_right, none_left}
use Rattle.domain_ranges.proofs.Outcomes.{on_err, on_err_both}
use Rattle.domain_ranges.proofs.intervals.join_all.Goals.{then-i-a, else-i-a+then-j-b}
use Rattle.domain_ranges.proofs.intervals.join_all.Goals as goal

pub returns-in_err-join-clause-no_memory : goal.returns-in_err-join-clause-no_memory
returns-in_err-join-clause-no_memory c = on_err c.from_residual.result _
    (join_many INFINITY (λ n. within c.args.a.now n || within c.args.b.now n) c.joining.list.items c.joining.last
    (in_either (drop c.joining.i c.args.a.now) (drop c.joining.j c.args.b.now))
    (in_either (drop (c.joining.i + 1) c.args.a.now) (drop c.joining.j c.args.b.now)) (get_or c.args.a.now c.joining.i (0, 0))
    c.joining.invariant.state (first_left INFINITY c.args.a.now c.args.b.now c.joining.i c.joining.j c.requires.first c.requires.second
    (c.is_first.ensures.yes c.if-is_first.true) (c.is_first.ensures.earlier c.if-is_first.true))
    c.in_err-join.ensures.open c.in_err-join.ensures.apart c.in_err-join.ensures.no_memory)

pub joining-preserved-then-is_first : goal.joining-preserved-then-is_first
joining-preserved-then-is_first c = record {
  first = search rules;
  second = search rules;
  capacity = search rules;
  state = subst (λ s. Joining INFINITY (λ n. within c.args.a.now n || within c.args.b.now n) c.join.new.list.items (Some s)
      (in_either (drop (c.joining.i + 1) c.args.a.now) (drop c.joining.j c.args.b.now))) (sym c.in_ok-join.ensures.joined)
      (subst (λ l. Joining INFINITY (λ n. within c.args.a.now n || within c.args.b.now n) l
      (Some (joined c.joining.last (get_or c.args.a.now c.joining.i (0, 0))))
      (in_either (drop (c.joining.i + 1) c.args.a.now) (drop c.joining.j c.args.b.now))) (sym c.in_ok-join.ensures.written)
      (join_more INFINITY (λ n. within c.args.a.now n || within c.args.b.now n) c.joining.list.items c.joining.last
      (in_either (drop c.joining.i c.args.a.now) (drop c.joining.j c.args.b.now))
      (in_either (drop (c.joining.i + 1) c.args.a.now) (drop c.joining.j c.args.b.now)) (get_or c.args.a.now c.joining.i (0, 0))
      c.joining.invariant.state (first_left INFINITY c.args.a.now c.args.b.now c.joining.i c.joining.j c.requires.first c.requires.second
      (c.is_first.ensures.yes c.if-is_first.true) (c.is_first.ensures.earlier c.if-is_first.true))));
}

pub returns-in_err-join-2-clause-no_memory : goal.returns-in_err-join-2-clause-no_memory
returns-in_err-join-2-clause-no_memory c =
    let there : c.joining.j < length c.args.b.now = elim c.if-i-a.branch [ then-i-a w ↦ c.is_first.ensures.no c.if-is_first.false w.if-i-a.true | else-i-a+then-j-b w ↦ w.if-j-b.true ] in
    on_err c.from_residual-in_err-join-2.result _
    (join_many INFINITY (λ n. within c.args.a.now n || within c.args.b.now n) c.joining.list.items c.joining.last
    (in_either (drop c.joining.i c.args.a.now) (drop c.joining.j c.args.b.now))
    (in_either (drop c.joining.i c.args.a.now) (drop (c.joining.j + 1) c.args.b.now)) (get_or c.args.b.now c.joining.j (0, 0))
    c.joining.invariant.state (first_right INFINITY c.args.a.now c.args.b.now c.joining.i c.joining.j c.requires.first c.requires.second there (c.is_first.ensures.later c.if-is_first.false))
    c.in_err-join-2.ensures.open c.in_err-join-2.ensures.apart c.in_err-join-2.ensures.no_memory)

pub joining-preserved : goal.joining-preserved
joining-preserved c =
    let there : c.joining.j < length c.args.b.now = elim c.if-i-a.branch [ then-i-a w ↦ c.is_first.ensures.no c.if-is_first.false w.if-i-a.true | else-i-a+then-j-b w ↦ w.if-j-b.true ] in
    record {
      first = search rules;
      second = omega arith;
      capacity = search rules;
      state = subst (λ s. Joining INFINITY (λ n. within c.args.a.now n || within c.args.b.now n) c.join-else-is_first.new.list.items (Some s)
          (in_either (drop c.joining.i c.args.a.now) (drop (c.joining.j + 1) c.args.b.now))) (sym c.in_ok-join-2.ensures.joined)
          (subst (λ l. Joining INFINITY (λ n. within c.args.a.now n || within c.args.b.now n) l
          (Some (joined c.joining.last (get_or c.args.b.now c.joining.j (0, 0))))
          (in_either (drop c.joining.i c.args.a.now) (drop (c.joining.j + 1) c.args.b.now))) (sym c.in_ok-join-2.ensures.written)
          (join_more INFINITY (λ n. within c.args.a.now n || within c.args.b.now n) c.joining.list.items c.joining.last
          (in_either (drop c.joining.i c.args.a.now) (drop c.joining.j c.args.b.now))
          (in_either (drop c.joining.i c.args.a.now) (drop (c.joining.j + 1) c.args.b.now)) (get_or c.args.b.now c.joining.j (0, 0))
          c.joining.invariant.state (first_right INFINITY c.args.a.now c.args.b.now c.joining.i c.joining.j c.requires.first c.requires.second there (c.is_first.ensures.later c.if-is_first.false))));
    }

pub returns-clause-spans : goal.returns-clause-spans
returns-clause-spans c = IfOk-weaker c.close.result (λ w. w.items ≡ c.joining.list.items ++ listed c.joining.last) (λ w. IsSpans 0 INFINITY w.items)
    (λ w e. subst (IsSpans 0 INFINITY) (sym e) (close_spans INFINITY (λ n. within c.args.a.now n || within c.args.b.now n) c.joining.list.items c.joining.last _
    c.joining.invariant.state (λ n h. none_left c.args.a.now c.args.b.now c.joining.i c.joining.j n c.if-i-a.false c.if-j-b.false)))
    c.close.ensures.all

pub returns-clause-set : goal.returns-clause-set
returns-clause-set c = IfOk-weaker c.close.result (λ w. w.items ≡ c.joining.list.items ++ listed c.joining.last)
    (λ w. members w.items ≡ filter (λ n. within c.args.a.now n || within c.args.b.now n) (universe INFINITY))
    (λ w e. ap members e ∙ join_done INFINITY (λ n. within c.args.a.now n || within c.args.b.now n) c.joining.list.items c.joining.last _
    c.joining.invariant.state (λ n h. none_left c.args.a.now c.args.b.now c.joining.i c.joining.j n c.if-i-a.false c.if-j-b.false))
    c.close.ensures.all

pub returns-clause-no_memory : goal.returns-clause-no_memory
returns-clause-no_memory c = on_err_both (IsSome c.joining.last) (2 ≤ length c.joining.list.items)
    (2 < interval_count (filter (λ n. within c.args.a.now n || within c.args.b.now n) (universe INFINITY))) c.close.result c.close.ensures.open
    c.close.ensures.no_memory
    (λ h g. close_many INFINITY (λ n. within c.args.a.now n || within c.args.b.now n) c.joining.list.items c.joining.last _ c.joining.invariant.state
    (λ n k. none_left c.args.a.now c.args.b.now c.joining.i c.joining.j n c.if-i-a.false c.if-j-b.false) h g)

pub joining-smaller-then-is_first : goal.joining-smaller-then-is_first
joining-smaller-then-is_first c = let l = c.is_first.ensures.yes c.if-is_first.true in omega arith

pub join-requires-clause-capacity : goal.join-requires-clause-capacity
join-requires-clause-capacity c = c.joining.invariant.capacity

pub join-requires-else-is_first-clause-capacity : goal.join-requires-else-is_first-clause-capacity
join-requires-else-is_first-clause-capacity c = c.joining.invariant.capacity

pub close-requires : goal.close-requires
close-requires c = record { capacity = c.joining.invariant.capacity }
