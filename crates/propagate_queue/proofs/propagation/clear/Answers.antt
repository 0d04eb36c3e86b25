use Rattle.propagate_queue.proofs.Queues.{was_there, was_taken, none_left, flag_within}
use Rattle.propagate_queue.proofs.propagation.clear.Goals as goal

pub bounds-queued-waiting : goal.bounds-queued-waiting
bounds-queued-waiting g c = flag_within c.clearing.queued c.in-Some.waiting
    (was_there c.clearing.queued (g.A.Agenda.agents c.clearing.agenda) (g.A.Agenda.agents c.take.new.self) (g.A.Agenda.spare c.clearing.agenda)
    c.in-Some.waiting c.clearing.invariant c.in-Some.ensures.taken)

pub clearing-preserved : goal.clearing-preserved
clearing-preserved g c = was_taken c.clearing.queued (g.A.Agenda.agents c.clearing.agenda) (g.A.Agenda.agents c.take.new.self)
    (g.A.Agenda.spare c.clearing.agenda) (g.A.Agenda.spare c.take.new.self) c.in-Some.waiting c.clearing.invariant c.in-Some.ensures.taken c.in-Some.ensures.len
    c.in-Some.ensures.room

pub returns-clause-queued : goal.returns-clause-queued
returns-clause-queued g c = none_left c.clearing.queued (g.A.Agenda.agents c.clearing.agenda) (g.A.Agenda.agents c.take.new.self)
    (g.A.Agenda.spare c.clearing.agenda) (g.A.Agenda.spare c.take.new.self) c.clearing.invariant c.in_default.ensures.none c.in_default.ensures.empty
    c.in_default.ensures.kept
