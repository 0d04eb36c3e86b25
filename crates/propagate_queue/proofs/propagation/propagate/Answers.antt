use Rattle.std.proofs.Common.{◌≡◌, ◌<◌, ◌≤◌, ◌+◌, ◌*◌, ℕ, List, false, length, ap, sym, subst, ◌∙◌, arith, ◌==◌, ◌&&◌}
use Rattle.std.proofs.lemmas.List.{length-map, length-set}
use Rattle.fd_language.specs.Family.{has}
use Rattle.dependency_chains.specs.WokenAgents.{wakes}
use Rattle.propagate_queue.specs.Postings.{Posting, ranged, ranges_of, posting_at, IsPosting}
use Rattle.propagate_queue.proofs.Queues.{was_there, was_taken, no_flags, flag_within, flagged_below}
use Rattle.propagate_queue.proofs.PropagationInvariant.{ended, total, measure_less, wakes_known}
use Rattle.std.specs.List.{list_any}
use Rattle.dependency_chains.specs.AgentReads.{AgentRead}
use Rattle.propagate_queue.specs.PropagationInvariant.{Activated}
use Rattle.propagate_queue.proofs.PropagationTurns.{posting_is, IsTurn, same_turn, moved_turn, moved_total, empty_turn, instance_at}
use Rattle.propagate_queue.proofs.propagation.propagate.Goals as goal

pub bounds-queued-agent : goal.bounds-queued-agent
bounds-queued-agent g c =
    flag_within c.activating.queued c.in-Some.agent (was_there c.activating.queued (g.A.Agenda.agents c.activating.agenda) (g.A.Agenda.agents c.take.new.self)
    (g.A.Agenda.spare c.activating.agenda) c.in-Some.agent c.activating.invariant.queued c.in-Some.ensures.taken)

pub target-target-requires : goal.target-target-requires
target-target-requires g c =
    let same : length c.activating.agents ≡ length c.args.agents.now = ap length c.activating.invariant.agents in
    let within = flag_within c.activating.queued c.in-Some.agent
    (was_there c.activating.queued (g.A.Agenda.agents c.activating.agenda) (g.A.Agenda.agents c.take.new.self) (g.A.Agenda.spare c.activating.agenda)
    c.in-Some.agent c.activating.invariant.queued c.in-Some.ensures.taken) in
    omega (arith, within, c.requires.agents, c.activating.auto.queued, same)

pub activate-requires-clause-agent : goal.activate-requires-clause-agent
activate-requires-clause-agent g c =
    let same : length c.activating.agents ≡ length c.args.agents.now = ap length c.activating.invariant.agents in
    let within = flag_within c.activating.queued c.in-Some.agent
    (was_there c.activating.queued (g.A.Agenda.agents c.activating.agenda) (g.A.Agenda.agents c.take.new.self) (g.A.Agenda.spare c.activating.agenda)
    c.in-Some.agent c.activating.invariant.queued c.in-Some.ensures.taken) in
    omega (arith, within, c.requires.agents, c.activating.auto.queued, same)

pub activate-requires-clause-posting : goal.activate-requires-clause-posting
activate-requires-clause-posting g c =
    let within = flag_within c.activating.queued c.in-Some.agent
    (was_there c.activating.queued (g.A.Agenda.agents c.activating.agenda) (g.A.Agenda.agents c.take.new.self) (g.A.Agenda.spare c.activating.agenda)
    c.in-Some.agent c.activating.invariant.queued c.in-Some.ensures.taken) in
    let low : c.in-Some.agent < length c.args.agents.now = omega (arith, within, c.requires.agents, c.activating.auto.queued) in
    subst (λ (l : List Posting). IsPosting (length c.activating.trail.current) (posting_at l c.in-Some.agent)) (sym c.activating.invariant.agents)
    (subst (λ (k : ℕ). IsPosting k (posting_at c.args.agents.now c.in-Some.agent)) (sym c.activating.invariant.vars)
    (instance_at (length c.args.trail.now.current) c.args.agents.now c.in-Some.agent (posting_at c.args.agents.now c.in-Some.agent) c.requires.postings low
    (posting_is c.args.agents.now c.in-Some.agent low)))

pub returns-in_err-activate-clause-queued : goal.returns-in_err-activate-clause-queued
returns-in_err-activate-clause-queued g c =
    was_taken c.activating.queued (g.A.Agenda.agents c.activating.agenda) (g.A.Agenda.agents c.take.new.self) (g.A.Agenda.spare c.activating.agenda)
    (g.A.Agenda.spare c.take.new.self) c.in-Some.agent c.activating.invariant.queued c.in-Some.ensures.taken c.in-Some.ensures.len c.in-Some.ensures.room

pub clear-requires : goal.clear-requires
clear-requires g c =
    was_taken c.activating.queued (g.A.Agenda.agents c.activating.agenda) (g.A.Agenda.agents c.take.new.self) (g.A.Agenda.spare c.activating.agenda)
    (g.A.Agenda.spare c.take.new.self) c.in-Some.agent c.activating.invariant.queued c.in-Some.ensures.taken c.in-Some.ensures.len c.in-Some.ensures.room

pub wake-requires-clause-queued : goal.wake-requires-clause-queued
wake-requires-clause-queued g c =
    was_taken c.activating.queued (g.A.Agenda.agents c.activating.agenda) (g.A.Agenda.agents c.take.new.self) (g.A.Agenda.spare c.activating.agenda)
    (g.A.Agenda.spare c.take.new.self) c.in-Some.agent c.activating.invariant.queued c.in-Some.ensures.taken c.in-Some.ensures.len c.in-Some.ensures.room

pub activating-preserved-in-Same : goal.activating-preserved-in-Same
activating-preserved-in-Same g c =
    let there = was_there c.activating.queued (g.A.Agenda.agents c.activating.agenda) (g.A.Agenda.agents c.take.new.self) (g.A.Agenda.spare c.activating.agenda)
    c.in-Some.agent c.activating.invariant.queued c.in-Some.ensures.taken in
    let low : c.in-Some.agent < length c.args.agents.now = omega (arith, flag_within c.activating.queued c.in-Some.agent there, c.requires.agents, c.activating.auto.queued) in
    let turn : IsTurn c.args.agents.now c.args.trail.now c.activating.trail c.args.queued.now c.activating.queued c.args.n.now.count c.activating.n.count = record {
      below = c.activating.invariant.below;
      vars = c.activating.invariant.vars;
      running = c.activating.invariant.running;
      sizes = c.activating.invariant.sizes;
      count = c.activating.invariant.count;
    } in
    let next = same_turn c.args.agents.now c.args.trail.now c.activating.trail c.activate.new.trail c.args.queued.now c.activating.queued c.args.n.now.count
    c.activating.n.count c.activate.new.n.count c.in-Some.agent (posting_at c.args.agents.now c.in-Some.agent) c.in_ok-activate.field-0
    low (posting_is c.args.agents.now c.in-Some.agent low) there c.in-Same.is
    (subst (λ (l : List Posting). Activated (ranged (posting_at l c.in-Some.agent)) c.activating.trail c.activate.new.trail c.in_ok-activate.field-0)
    c.activating.invariant.agents c.in_ok-activate.ensures.done) c.activate.ensures.count turn in
    record {
      agents = c.activate.ensures.agents ∙ c.activating.invariant.agents;
      below = next.below;
      vars = next.vars;
      queued = was_taken c.activating.queued (g.A.Agenda.agents c.activating.agenda) (g.A.Agenda.agents c.take.new.self) (g.A.Agenda.spare c.activating.agenda)
          (g.A.Agenda.spare c.take.new.self) c.in-Some.agent c.activating.invariant.queued c.in-Some.ensures.taken c.in-Some.ensures.len c.in-Some.ensures.room;
      running = next.running;
      sizes = next.sizes;
      count = next.count;
    }

pub returns-in-Empty-clause-done : goal.returns-in-Empty-clause-done
returns-in-Empty-clause-done g c =
    let there = was_there c.activating.queued (g.A.Agenda.agents c.activating.agenda) (g.A.Agenda.agents c.take.new.self) (g.A.Agenda.spare c.activating.agenda)
    c.in-Some.agent c.activating.invariant.queued c.in-Some.ensures.taken in
    let low : c.in-Some.agent < length c.args.agents.now = omega (arith, flag_within c.activating.queued c.in-Some.agent there, c.requires.agents, c.activating.auto.queued) in
    let i = instance_at (length c.args.trail.now.current) c.args.agents.now c.in-Some.agent (posting_at c.args.agents.now c.in-Some.agent) c.requires.postings
    low (posting_is c.args.agents.now c.in-Some.agent low) in
    let none = empty_turn c.args.agents.now c.activating.trail c.activate.new.trail c.activating.queued c.in-Some.agent
    (posting_at c.args.agents.now c.in-Some.agent) c.in_ok-activate.field-0 c.requires.monotone low (posting_is c.args.agents.now c.in-Some.agent low)
    (omega (arith, i.0, c.activating.invariant.vars)) c.in-Empty.is
    (subst (λ (l : List Posting). Activated (ranged (posting_at l c.in-Some.agent)) c.activating.trail c.activate.new.trail c.in_ok-activate.field-0)
    c.activating.invariant.agents c.in_ok-activate.ensures.done) c.activating.invariant.running in
    (none.0, omega (arith, none.1, c.activating.invariant.vars), none.2)

pub woken-woken-requires : goal.woken-woken-requires
woken-woken-requires g c =
    let there = was_there c.activating.queued (g.A.Agenda.agents c.activating.agenda) (g.A.Agenda.agents c.take.new.self) (g.A.Agenda.spare c.activating.agenda)
    c.in-Some.agent c.activating.invariant.queued c.in-Some.ensures.taken in
    let low : c.in-Some.agent < length c.args.agents.now = omega (arith, flag_within c.activating.queued c.in-Some.agent there, c.requires.agents, c.activating.auto.queued) in
    let i = instance_at (length c.args.trail.now.current) c.args.agents.now c.in-Some.agent (posting_at c.args.agents.now c.in-Some.agent) c.requires.postings
    low (posting_is c.args.agents.now c.in-Some.agent low) in
    omega (arith, i.0, c.requires.vars, c.target-target.ensures, ap (λ (l : List Posting). (posting_at l c.in-Some.agent).target) c.activating.invariant.agents)

pub wake-requires-clause-known : goal.wake-requires-clause-known
wake-requires-clause-known g c a h =
    let low = wakes_known (length (ranges_of c.args.agents.now)) a (λ r. (r.var == c.target-target.result) && wakes c.of_ends-change.result r.feature)
    c.args.chains.now.reads c.requires.readers.known (sym (c.woken-woken.ensures a) ∙ h) in
    omega (arith, low, length-map c.args.agents.now ranged, c.requires.agents, c.activating.auto.queued, length-set c.activating.queued c.in-Some.agent false)

pub activating-smaller : goal.activating-smaller
activating-smaller g c =
    let there = was_there c.activating.queued (g.A.Agenda.agents c.activating.agenda) (g.A.Agenda.agents c.take.new.self) (g.A.Agenda.spare c.activating.agenda)
    c.in-Some.agent c.activating.invariant.queued c.in-Some.ensures.taken in
    let low : c.in-Some.agent < length c.args.agents.now = omega (arith, flag_within c.activating.queued c.in-Some.agent there, c.requires.agents, c.activating.auto.queued) in
    let i = instance_at (length c.args.trail.now.current) c.args.agents.now c.in-Some.agent (posting_at c.args.agents.now c.in-Some.agent) c.requires.postings
    low (posting_is c.args.agents.now c.in-Some.agent low) in
    let fewer = moved_total (posting_at c.args.agents.now c.in-Some.agent) c.activating.trail c.activate.new.trail c.in_ok-activate.field-0 c.in-Changed.before
    c.in-Changed.after (omega (arith, i.0, c.activating.invariant.vars)) c.in-Changed.is
    (subst (λ (l : List Posting). Activated (ranged (posting_at l c.in-Some.agent)) c.activating.trail c.activate.new.trail c.in_ok-activate.field-0)
    c.activating.invariant.agents c.in_ok-activate.ensures.done) in
    let size : length c.wake.new.queued ≡ length c.activating.queued = omega (arith, c.wake.auto.queued, length-set c.activating.queued c.in-Some.agent false) in
    let few : length (g.A.Agenda.agents c.wake.new.agenda) ≤ length c.activating.queued = omega (arith, c.wake.ensures.queued.all, flagged_below c.wake.new.queued, size) in
    subst (λ (n : ℕ). total c.activate.new.trail.current * (n + 1) + length (g.A.Agenda.agents c.wake.new.agenda) < total c.activating.trail.current *
    (length c.activating.queued + 1) + length (g.A.Agenda.agents c.activating.agenda)) (sym size)
    (measure_less (total c.activating.trail.current) (total c.activate.new.trail.current) (length c.activating.queued)
    (length (g.A.Agenda.agents c.activating.agenda)) (length (g.A.Agenda.agents c.wake.new.agenda)) fewer few)

pub activating-preserved : goal.activating-preserved
activating-preserved g c =
    let there = was_there c.activating.queued (g.A.Agenda.agents c.activating.agenda) (g.A.Agenda.agents c.take.new.self) (g.A.Agenda.spare c.activating.agenda)
    c.in-Some.agent c.activating.invariant.queued c.in-Some.ensures.taken in
    let low : c.in-Some.agent < length c.args.agents.now = omega (arith, flag_within c.activating.queued c.in-Some.agent there, c.requires.agents, c.activating.auto.queued) in
    let i = instance_at (length c.args.trail.now.current) c.args.agents.now c.in-Some.agent (posting_at c.args.agents.now c.in-Some.agent) c.requires.postings
    low (posting_is c.args.agents.now c.in-Some.agent low) in
    let same : c.target-target.result ≡ (posting_at c.args.agents.now c.in-Some.agent).target = c.target-target.ensures
    ∙ ap (λ (l : List Posting). (posting_at l c.in-Some.agent).target) c.activating.invariant.agents in
    let turn : IsTurn c.args.agents.now c.args.trail.now c.activating.trail c.args.queued.now c.activating.queued c.args.n.now.count c.activating.n.count = record {
      below = c.activating.invariant.below;
      vars = c.activating.invariant.vars;
      running = c.activating.invariant.running;
      sizes = c.activating.invariant.sizes;
      count = c.activating.invariant.count;
    } in
    let next = moved_turn c.args.agents.now c.args.chains.now.reads c.args.trail.now c.activating.trail c.activate.new.trail c.args.queued.now
    c.activating.queued c.wake.new.queued c.woken-woken.result c.args.n.now.count c.activating.n.count c.activate.new.n.count c.in-Some.agent
    (posting_at c.args.agents.now c.in-Some.agent) c.in_ok-activate.field-0 c.in-Changed.before c.in-Changed.after c.of_ends-change.result
    c.requires.monotone c.requires.readers (omega (arith, c.requires.agents, c.activating.auto.queued)) (omega (arith, c.wake.auto.queued, length-set c.activating.queued c.in-Some.agent false))
    low (posting_is c.args.agents.now c.in-Some.agent low) (omega (arith, i.0, c.activating.invariant.vars)) there c.in-Changed.is
    (subst (λ (l : List Posting). Activated (ranged (posting_at l c.in-Some.agent)) c.activating.trail c.activate.new.trail c.in_ok-activate.field-0)
    c.activating.invariant.agents c.in_ok-activate.ensures.done) c.of_ends-change.ensures c.wake.ensures.flags
    (λ k. subst (λ (v : ℕ). has c.woken-woken.result k ≡ list_any
    (λ (r : AgentRead). (r.agent == k) && ((r.var == v) && wakes c.of_ends-change.result r.feature)) c.args.chains.now.reads) same
    (c.woken-woken.ensures k)) c.activate.ensures.count turn in
    record {
      agents = c.activate.ensures.agents ∙ c.activating.invariant.agents;
      below = next.below;
      vars = next.vars;
      queued = c.wake.ensures.queued;
      running = next.running;
      sizes = next.sizes;
      count = next.count;
    }

pub returns-clause-done : goal.returns-clause-done
returns-clause-done g c =
    ended (ranges_of c.args.agents.now) c.activating.trail.current c.activating.queued
    (no_flags c.activating.queued (g.A.Agenda.agents c.activating.agenda) (g.A.Agenda.spare c.activating.agenda) c.activating.invariant.queued
    c.in_default.ensures.none) c.activating.invariant.running
