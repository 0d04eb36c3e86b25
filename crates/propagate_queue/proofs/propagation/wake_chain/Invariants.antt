use Rattle.std.proofs.Common.{◌≡◌, ◌<◌, ◌||◌, ℕ, true, length}
use Rattle.fd_language.specs.Family.{has}
use Rattle.propagate_queue.specs.Queues.{AreQueued, flag_at}
use Rattle.propagate_queue.proofs.propagation.wake_chain.Given as goal

abbrev pub invariant-waking : goal.invariant-waking
invariant-waking g l = record {
  known : (a : ℕ) → has l.chain a ≡ true → a < length l.queued;
  queued : AreQueued l.queued (g.A.Agenda.agents l.agenda) (g.A.Agenda.spare l.agenda);
  flags : (a : ℕ) → (flag_at l.queued a || has l.chain a) ≡ (flag_at l.fn.queued a || has l.fn.chain a);
}

abbrev pub decreases-waking : goal.decreases-waking
decreases-waking g l = length l.chain
