use Rattle.std.proofs.Common.{◌≡◌, ◌≤◌, ◌+◌, ◌*◌, ℕ, length}
use Rattle.range_code.specs.Frames.{family_of}
use Rattle.propagate_queue.specs.Postings.{ranges_of}
use Rattle.fd_model.specs.Weights.{weights}
use Rattle.propagate_queue.specs.Queues.{AreQueued, flagged}
use Rattle.propagate_queue.specs.PropagationInvariant.{IsRunning}
use Rattle.propagate_queue.proofs.PropagationInvariant.{total}
use Rattle.propagate_queue.proofs.propagation.propagate.Given as goal

abbrev pub invariant-activating : goal.invariant-activating
invariant-activating g l = record {
  agents : l.agents ≡ l.fn.agents;
  below : l.trail.below ≡ l.fn.trail.below;
  vars : length l.trail.current ≡ length l.fn.trail.current;
  queued : AreQueued l.queued (g.A.Agenda.agents l.agenda) (g.A.Agenda.spare l.agenda);
  running : IsRunning (ranges_of l.fn.agents) l.trail.current l.queued;
  sizes : (x : ℕ) → length (family_of l.trail.current x) ≤ length (family_of l.fn.trail.current x);
  count : l.n.count + flagged l.queued ≤ l.fn.n.count + (flagged l.fn.queued + weights (ranges_of l.fn.agents) (family_of l.fn.trail.current) (family_of l.trail.current));
}

abbrev pub decreases-activating : goal.decreases-activating
decreases-activating g l = total l.trail.current * (length l.queued + 1) + length (g.A.Agenda.agents l.agenda)
