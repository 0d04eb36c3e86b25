use Rattle.std.proofs.Common.{◌++◌, ◌∷◌, [], ◌∙◌, length, ap, arith, true}
use Rattle.dependency_chains.specs.AgentReads.{read_by}
use Rattle.propagate_queue.specs.Instances.{posting_of}
use Rattle.propagate_queue.proofs.Queues.{flagged_below}
use Rattle.propagate_queue.proofs.NewAgents.{was_added, agent_readers, agent_within, agent_kept}
use Rattle.propagate_queue.proofs.new_agents.add_agent.Goals as goal

pub put-requires : goal.put-requires
put-requires g c = omega (arith, c.requires.room, c.requires.queued.all, flagged_below c.args.queued.now.items)

pub returns-clause-queued : goal.returns-clause-queued
returns-clause-queued g c =
    was_added c.args.queued.now.items c.push_reserved.new.self.items (g.A.Agenda.agents c.args.agenda.now) (g.A.Agenda.agents c.put.new.self)
    (g.A.Agenda.spare c.args.agenda.now) (g.A.Agenda.spare c.put.new.self) c.len-agent.result c.requires.queued
    (omega (arith, c.len-agent.ensures, c.requires.flags)) (c.push_reserved.ensures.items ∙ ap (λ l. l ++ true ∷ []) c.reserve.ensures.items) c.requires.room
    c.put.ensures.added c.put.ensures.len c.put.ensures.room

pub returns-clause-readers : goal.returns-clause-readers
returns-clause-readers g c =
    agent_readers c.args.agents.now c.push.new.self (posting_of c.args.code.value c.args.target c.args.args.now) c.len-agent.result c.args.chains.now.reads
    c.register.new.self.reads c.read_features.new.into.items c.requires.readers
    c.in_ok-push.ensures.added (omega (arith, c.len-agent.ensures))
    (ap (λ s. s.reads) c.in_default.ensures.added ∙ ap (λ f. c.args.chains.now.reads ++ read_by c.len-agent.result f) c.deref-2.ensures.value) c.in_ok-read_features.ensures.same

pub returns-clause-within : goal.returns-clause-within
returns-clause-within g c =
    agent_within c.args.vars c.len-agent.result c.args.chains.now.reads c.register.new.self.reads c.read_features.new.into.items c.requires.within c.in_ok-read_features.ensures.vars
    (ap (λ s. s.reads) c.in_default.ensures.added ∙ ap (λ f. c.args.chains.now.reads ++ read_by c.len-agent.result f) c.deref-2.ensures.value)

pub returns-clause-kept : goal.returns-clause-kept
returns-clause-kept g c m h =
    agent_kept m c.len-agent.result (length c.args.agents.now) c.args.chains.now.reads c.register.new.self.reads c.read_features.new.into.items h (omega (arith, c.len-agent.ensures))
    (ap (λ s. s.reads) c.in_default.ensures.added ∙ ap (λ f. c.args.chains.now.reads ++ read_by c.len-agent.result f) c.deref-2.ensures.value)
