use Rattle.std.proofs.Common.{◌<◌, ◌∙◌, true, arith, length}
use Rattle.std.proofs.lemmas.List.{length-set}
use Rattle.propagate_queue.proofs.Queues.{has_room, was_put, woke, awake, in_rest, in_first}
use Rattle.propagate_queue.proofs.propagation.wake_chain.Goals as goal

pub bounds-queued-agent : goal.bounds-queued-agent
bounds-queued-agent g c = c.waking.invariant.known c.in-Some.agent (in_first c.in-Some.agent c.next.new.self c.waking.chain c.in-Some.ensures)

pub put-requires : goal.put-requires
put-requires g c =
    let within = c.waking.invariant.known c.in-Some.agent (in_first c.in-Some.agent c.next.new.self c.waking.chain c.in-Some.ensures) in
    has_room c.waking.queued (g.A.Agenda.agents c.waking.agenda) (g.A.Agenda.spare c.waking.agenda) c.in-Some.agent c.waking.invariant.queued within c.if-not-queued-agent.true

pub waking-preserved-then-not-queued-agent : goal.waking-preserved-then-not-queued-agent
waking-preserved-then-not-queued-agent g c =
    let flags = c.waking.queued in
    let a = c.in-Some.agent in
    let within : a < length flags = c.waking.invariant.known a (in_first a c.next.new.self c.waking.chain c.in-Some.ensures) in
    record {
      known = λ k h. omega (arith, length-set flags a true, c.waking.invariant.known k (in_rest a k c.next.new.self c.waking.chain c.in-Some.ensures h));
      queued = was_put flags (g.A.Agenda.agents c.waking.agenda) (g.A.Agenda.agents c.put.new.self) (g.A.Agenda.spare c.waking.agenda)
          (g.A.Agenda.spare c.put.new.self) a c.waking.invariant.queued within c.if-not-queued-agent.true c.put.ensures.added c.put.ensures.len
          c.put.ensures.room;
      flags = λ k. woke flags a k c.next.new.self c.waking.chain within c.in-Some.ensures ∙ c.waking.invariant.flags k;
    }

pub waking-preserved : goal.waking-preserved
waking-preserved g c =
    let a = c.in-Some.agent in
    record {
      known = λ k h. c.waking.invariant.known k (in_rest a k c.next.new.self c.waking.chain c.in-Some.ensures h);
      queued = c.waking.invariant.queued;
      flags = λ k. awake c.waking.queued a k c.next.new.self c.waking.chain c.if-not-queued-agent.false c.in-Some.ensures ∙ c.waking.invariant.flags k;
    }
