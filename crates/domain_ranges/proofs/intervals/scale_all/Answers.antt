use Rattle.std.proofs.Common.{rules, subst, sym, ◌+◌, drop, arith}
use Rattle.fd_language.specs.declared.TheConstants.{INFINITY}
use Rattle.domain_ranges.proofs.Multiples.{Scaling, member_in, member_out, member_many, member_past, scale_end}
use Rattle.domain_ranges.proofs.Outcomes.{on_err}
use Rattle.domain_ranges.proofs.intervals.scale_all.Goals.{else-scaling-test, then-scaling-test+then-member-limit}
use Rattle.domain_ranges.proofs.intervals.scale_all.Goals as goal

pub returns-in_err-push-clause-no_memory : goal.returns-in_err-push-clause-no_memory
returns-in_err-push-clause-no_memory c = on_err c.from_residual.result _
    (member_many INFINITY c.args.c c.args.spans.now c.scaling.list.items c.scaling.next c.scaling.i c.max-member.result c.scaling.invariant.state
    c.scaling-test.true c.requires.factor c.max-member.ensures c.if-member-limit.false c.in_err-push.ensures.no_memory)

pub scaling-preserved-then-member-spans : goal.scaling-preserved-then-member-spans
scaling-preserved-then-member-spans c = record {
  place = search rules;
  capacity = search rules;
  end = omega arith;
  state = subst (λ l. Scaling INFINITY c.args.c c.args.spans.now l (c.max-member.result + 1) (drop (c.scaling.i + 1) c.args.spans.now)) (sym c.in_ok-push.ensures.ok)
      (member_out INFINITY c.args.c c.args.spans.now c.scaling.list.items c.scaling.next c.scaling.i c.max-member.result c.scaling.invariant.state
      c.scaling-test.true c.requires.factor c.max-member.ensures c.if-member-limit.false c.if-member-spans.true);
}

pub scaling-preserved : goal.scaling-preserved
scaling-preserved c = record {
  place = search rules;
  capacity = search rules;
  end = omega arith;
  state = subst (λ l. Scaling INFINITY c.args.c c.args.spans.now l (c.max-member.result + 1) (drop c.scaling.i c.args.spans.now)) (sym c.in_ok-push.ensures.ok)
      (member_in INFINITY c.args.c c.args.spans.now c.scaling.list.items c.scaling.next c.scaling.i c.max-member.result c.scaling.invariant.state
      c.scaling-test.true c.requires.factor c.max-member.ensures c.if-member-limit.false c.if-member-spans.false);
}

pub returns-clause-set : goal.returns-clause-set
returns-clause-set c = elim c.scaling-test.branch [
  | else-scaling-test w ↦ scale_end INFINITY c.args.c c.args.spans.now c.scaling.list.items c.scaling.next c.scaling.i c.scaling.invariant.state w.scaling-test.false
  | then-scaling-test+then-member-limit w ↦ member_past INFINITY c.args.c c.args.spans.now c.scaling.list.items c.scaling.next c.scaling.i w.max-member.result
      c.scaling.invariant.state w.scaling-test.true (let f = c.requires.factor in omega arith) w.max-member.ensures w.if-member-limit.true
]

pub push-requires : goal.push-requires
push-requires c = c.scaling.invariant.capacity

pub returns-clause-spans : goal.returns-clause-spans
returns-clause-spans c = c.scaling.invariant.state.made.spans
