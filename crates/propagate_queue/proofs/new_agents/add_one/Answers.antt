use Rattle.std.proofs.Common.{◌∷◌, [], List, length, ap, sym, subst, arith, All}
use Rattle.std.proofs.lemmas.List.Elements.{All-push}
use Rattle.fd_language.specs.declared.TheConstants.{INFINITY}
use Rattle.fd_language.specs.Monotonicity.{IsMonotone}
use Rattle.fd_model.specs.ClosedFamilies.{AllPosted}
use Rattle.propagate_queue.specs.Postings.{Posting, IsPosting, ranges_of}
use Rattle.propagate_queue.specs.Instances.{posting_of}
use Rattle.propagate_queue.proofs.NewAgents.{all_added, none_added, posted_more}
use Rattle.propagate_queue.proofs.new_agents.add_one.Goals as goal

pub returns-in_err-add_agent-clause-added : goal.returns-in_err-add_agent-clause-added
returns-in_err-add_agent-clause-added g c = none_added (posting_of c.args.code.value c.args.target c.args.args.now ∷ []) c.args.agents.now c.add_agent.new.agents c.in_err-add_agent.ensures.unchanged

pub returns-in_err-add_agent-clause-instances : goal.returns-in_err-add_agent-clause-instances
returns-in_err-add_agent-clause-instances g c = subst (λ (l : List Posting). All (IsPosting c.args.vars) l) (sym c.in_err-add_agent.ensures.unchanged) c.requires.old

pub returns-in_err-add_agent-clause-monotone : goal.returns-in_err-add_agent-clause-monotone
returns-in_err-add_agent-clause-monotone g c = subst (λ (l : List Posting). AllPosted (λ p. IsMonotone INFINITY p.range) (ranges_of l)) (sym c.in_err-add_agent.ensures.unchanged) c.requires.monotone

pub returns-in_err-add_agent-clause-flagged : goal.returns-in_err-add_agent-clause-flagged
returns-in_err-add_agent-clause-flagged g c = omega (arith, ap length c.in_err-add_agent.ensures.unchanged, ap length c.in_err-add_agent.ensures.no_flag, c.requires.flags)

pub returns-clause-added : goal.returns-clause-added
returns-clause-added g c = all_added (posting_of c.args.code.value c.args.target c.args.args.now ∷ []) c.args.agents.now c.add_agent.new.agents c.in_ok-add_agent.ensures.agents

pub returns-clause-instances : goal.returns-clause-instances
returns-clause-instances g c = subst (λ (l : List Posting). All (IsPosting c.args.vars) l) (sym c.in_ok-add_agent.ensures.agents)
    (All-push (IsPosting c.args.vars) c.args.agents.now (posting_of c.args.code.value c.args.target c.args.args.now) c.requires.old c.requires.instance)

pub returns-clause-monotone : goal.returns-clause-monotone
returns-clause-monotone g c = posted_more (λ p. IsMonotone INFINITY p.range) c.args.agents.now c.add_agent.new.agents
    (posting_of c.args.code.value c.args.target c.args.args.now) c.in_ok-add_agent.ensures.agents c.requires.monotone c.in_ok-add_agent.ensures.monotone
