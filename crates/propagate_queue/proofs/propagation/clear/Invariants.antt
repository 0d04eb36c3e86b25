use Rattle.std.proofs.Common.{length}
use Rattle.propagate_queue.specs.Queues.{AreQueued}
use Rattle.propagate_queue.proofs.propagation.clear.Given as goal

abbrev pub invariant-clearing : goal.invariant-clearing
invariant-clearing g l = AreQueued l.queued (g.A.Agenda.agents l.agenda) (g.A.Agenda.spare l.agenda)

abbrev pub decreases-clearing : goal.decreases-clearing
decreases-clearing g l = length (g.A.Agenda.agents l.agenda)
