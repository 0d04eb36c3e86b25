use Rattle.std.proofs.Common.{length}
use Rattle.propagate_queue.proofs.propagation.empty.Given as goal

abbrev pub decreases-emptying : goal.decreases-emptying
decreases-emptying g l = length (g.A.Agenda.agents l.agenda)
