use Rattle.std.proofs.Common.{◌++◌, ◌∙◌, List, Bool, map, length, ap, refl, sym, subst, arith}
use Rattle.std.proofs.lemmas.List.{length-map}
use Rattle.propagate_queue.specs.Instances.{posting}
use Rattle.std.specs.Prelude.{IfOk, MatchBool}
use Rattle.range_code.specs.Frames.{family_of}
use Rattle.fd_model.specs.Weights.{weights}
use Rattle.propagate_queue.specs.Postings.{Posting, ranges_of}
use Rattle.propagate_queue.specs.PropagationInvariant.{AreDomains, HasNone}
use Rattle.propagate_queue.proofs.NewAgents.{same_flags}
use Rattle.propagate_queue.proofs.StoreFields.{none_more, starts, flagged_new}
use Rattle.propagate_queue.proofs.marked.post_all.Goals as goal

pub returns-in_err-reserve-clause-part : goal.returns-in_err-reserve-clause-part
returns-in_err-reserve-clause-part g c = (map posting c.args.list.items, refl)

pub returns-then-lost-clause-done : goal.returns-then-lost-clause-done
returns-then-lost-clause-done g c = none_more c.args.agents.now (map posting c.args.list.items) c.add_agents.new.agents (length c.args.trail.now.current)
    c.in_ok-add_agents.ensures.agents (c.requires.failed c.if-lost.true)

pub propagate-requires-clause-running : goal.propagate-requires-clause-running
propagate-requires-clause-running g c =
    starts c.args.agents.now (map posting c.args.list.items) c.add_agents.new.agents c.args.trail.now.current c.args.queued.now.items c.deref_mut-2.result.now
    (c.requires.settled c.if-lost.false) c.in_ok-add_agents.ensures.agents
    (c.deref_mut-2.ensures.value ∙ c.in_ok-add_agents.ensures.flags ∙ ap (λ l. c.args.queued.now.items ++ l) (same_flags c.args.list.items)) c.requires.flagged

pub returns-clause-count : goal.returns-clause-count
returns-clause-count g c =
    omega (
      arith,
      c.propagate.ensures.count,
      flagged_new c.args.queued.now.items c.deref_mut-2.result.now (map posting c.args.list.items) (g.A.Agenda.agents c.args.agenda.now)
          (g.A.Agenda.spare c.args.agenda.now) c.requires.queued c.requires.empty (c.deref_mut-2.ensures.value ∙ c.in_ok-add_agents.ensures.flags
          ∙ ap (λ l. c.args.queued.now.items ++ l) (same_flags c.args.list.items)),
      length-map c.args.list.items posting,
      ap (λ (l : List Posting). weights (ranges_of l) (family_of c.args.trail.now.current) (family_of c.propagate.new.trail.current)) c.propagate.ensures.agents,
    )

pub returns-clause-done : goal.returns-clause-done
returns-clause-done g c =
    subst (λ (l : List Posting). IfOk c.propagate.result
    (λ (b : Bool). MatchBool b (AreDomains (ranges_of l) c.propagate.new.trail.current) (HasNone (ranges_of l) (length c.args.trail.now.current))))
    (sym c.propagate.ensures.agents) c.propagate.ensures.done
