use Rattle.std.proofs.Common.{List, ℕ, refl, subst}
use Rattle.fd_language.specs.declared.TheConstants.{INFINITY}
use Rattle.fd_language.specs.Range.{set_of}
use Rattle.domain_ranges.specs.Narrowing.{IsNarrowed}
use Rattle.range_code.specs.Frames.{family_of}
use Rattle.propagate_queue.specs.Postings.{posting_at, ranged}
use Rattle.propagate_queue.proofs.Cuts.{cut_activates}
use Rattle.propagate_queue.proofs.activation.activate_evaluating.Goals as goal

pub take_left-requires-clause-left : goal.take_left-requires-clause-left
take_left-requires-clause-left c =
    let set : List ℕ = set_of INFINITY (family_of c.args.trail.now.current) (ranged (posting_at c.args.agents.now c.args.agent)).range in
    (set, subst (λ (l : List ℕ). IsNarrowed l set c.in_ok-left.left) c.domain.ensures c.in_ok-left.ensures.narrowed)

pub returns-clause-done : goal.returns-clause-done
returns-clause-done c =
    let set : List ℕ = set_of INFINITY (family_of c.args.trail.now.current) (ranged (posting_at c.args.agents.now c.args.agent)).range in
    cut_activates c.take_left.result (ranged (posting_at c.args.agents.now c.args.agent)) c.args.target set c.args.trail.now c.take_left.new.self c.requires.target refl
    (c.take_left.ensures.cut set (subst (λ (l : List ℕ). IsNarrowed l set c.in_ok-left.left) c.domain.ensures c.in_ok-left.ensures.narrowed))
