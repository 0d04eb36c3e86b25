use Rattle.std.proofs.Common.{◌≡◌, ◌≤◌, ◌+◌, ◌<◌, ◌++◌, ℕ, true, map, filter, nat_lt, length, All}
use Rattle.fd_language.specs.declared.TheConstants.{INFINITY}
use Rattle.fd_model.specs.ClosedFamilies.{AllPosted}
use Rattle.fd_language.specs.Monotonicity.{IsMonotone}
use Rattle.propagate_queue.specs.Postings.{ranges_of, IsPosting, AreReaders}
use Rattle.propagate_queue.specs.Instances.{posting}
use Rattle.propagate_queue.specs.Queues.{AreQueued}
use Rattle.propagate_queue.proofs.new_agents.add_agents.Given as goal

abbrev pub invariant-loop-instance : goal.invariant-loop-instance
invariant-loop-instance g l = record {
  agents : l.agents ≡ l.fn.agents ++ map posting l.yielded;
  flags : l.queued.items ≡ l.fn.queued.items ++ map (λ _. true) l.yielded;
  queued : AreQueued l.queued.items (g.A.Agenda.agents l.agenda) (g.A.Agenda.spare l.agenda);
  room : g.A.Agenda.spare l.fn.agenda + length (g.A.Agenda.agents l.fn.agenda) ≤ g.A.Agenda.spare l.agenda + length (g.A.Agenda.agents l.agenda);
  instances : All (IsPosting l.vars) l.agents;
  monotone : AllPosted (λ p. IsMonotone INFINITY p.range) (ranges_of l.agents);
  readers : AreReaders (ranges_of l.agents) l.chains.reads;
  vars : l.chains.vars ≡ l.vars;
  within : All (λ r. r.var < l.vars) l.chains.reads;
  kept : (m : ℕ) → m ≤ length l.fn.agents → filter (λ r. nat_lt r.agent m) l.chains.reads ≡ filter (λ r. nat_lt r.agent m) l.fn.chains.reads;
}
