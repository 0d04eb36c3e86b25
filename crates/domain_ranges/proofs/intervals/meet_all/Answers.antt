use Rattle.std.proofs.Common.{rules, subst, sym, drop, ◌+◌, ◌&&◌, inl, inr}
use Rattle.domain_ranges.specs.Spans.{within}
use Rattle.domain_ranges.proofs.Intersection.{Meeting, left_at, right_at, more_at, done_at}
use Rattle.fd_language.specs.declared.TheConstants.{INFINITY}
use Rattle.domain_ranges.proofs.Outcomes.{on_err}
use Rattle.domain_ranges.proofs.intervals.meet_all.Goals.{then-meeting-test+else-j-b, else-meeting-test}
use Rattle.domain_ranges.proofs.intervals.meet_all.Goals as goal

pub returns-in_err-push_meet-clause-no_memory : goal.returns-in_err-push_meet-clause-no_memory
returns-in_err-push_meet-clause-no_memory c = on_err c.from_residual.result _
    (more_at INFINITY (λ n. within c.args.a.now n && within c.args.b.now n) c.args.a.now c.args.b.now c.meeting.list.items c.meeting.i c.meeting.j
    c.meeting.invariant.state c.meeting-test.true c.if-j-b.true c.in_err-push_meet.ensures.no_memory.0 c.in_err-push_meet.ensures.no_memory.1)

pub meeting-preserved-then-a-i : goal.meeting-preserved-then-a-i
meeting-preserved-then-a-i c = record {
  first = search rules;
  second = search rules;
  capacity = search rules;
  state = subst (λ l. Meeting INFINITY (λ n. within c.args.a.now n && within c.args.b.now n) l (drop (c.meeting.i + 1) c.args.a.now) (drop c.meeting.j c.args.b.now)) (sym c.in_ok-push_meet.ensures.ok)
      (left_at INFINITY (λ n. within c.args.a.now n && within c.args.b.now n) c.args.a.now c.args.b.now c.meeting.list.items c.meeting.i c.meeting.j
      c.meeting.invariant.state c.meeting-test.true c.if-j-b.true c.if-a-i.true);
}

pub meeting-preserved : goal.meeting-preserved
meeting-preserved c = record {
  first = search rules;
  second = search rules;
  capacity = search rules;
  state = subst (λ l. Meeting INFINITY (λ n. within c.args.a.now n && within c.args.b.now n) l (drop c.meeting.i c.args.a.now) (drop (c.meeting.j + 1) c.args.b.now)) (sym c.in_ok-push_meet.ensures.ok)
      (right_at INFINITY (λ n. within c.args.a.now n && within c.args.b.now n) c.args.a.now c.args.b.now c.meeting.list.items c.meeting.i c.meeting.j
      c.meeting.invariant.state c.meeting-test.true c.if-j-b.true c.if-a-i.false);
}

pub returns-clause-set : goal.returns-clause-set
returns-clause-set c = done_at INFINITY (λ n. within c.args.a.now n && within c.args.b.now n) c.args.a.now c.args.b.now c.meeting.list.items c.meeting.i c.meeting.j c.meeting.invariant.state
    (elim c.meeting-test.branch [ then-meeting-test+else-j-b w ↦ inr w.if-j-b.false | else-meeting-test w ↦ inl w.meeting-test.false ])
