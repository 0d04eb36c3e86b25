use Rattle.std.proofs.Common.{◌<◌, length, ap, subst, arith}
use Rattle.std.specs.Prelude.{IfOk}
use Rattle.std.proofs.lemmas.List.{length-map}
use Rattle.fd_language.specs.declared.TheConstants.{INFINITY}
use Rattle.fd_language.specs.Range.{Range, set_of}
use Rattle.domain_ranges.specs.Narrowing.{IsNarrowed}
use Rattle.range_code.specs.Frames.{family_of}
use Rattle.propagate_queue.specs.AgentArguments.{laid}
use Rattle.propagate_queue.proofs.AgentArguments.{code_of}
use Rattle.propagate_queue.proofs.agents.Agents.narrow.Goals as goal

pub returns-clause-narrowed : goal.returns-clause-narrowed
returns-clause-narrowed g c =
    let t = c.self.inside in
    let low : c.args.number < length t.list.items = omega (arith, c.requires.number, ap length c.self.view_is, length-map t.list.items (laid t.args.items)) in
    rw (← c.self.view_is)
    (subst (λ (q : Range). IfOk c.narrow.result (IsNarrowed c.args.target.now (set_of INFINITY (family_of (g.V.View.sets c.args.view.now)) q)))
    (code_of t.list.items t.args.items c.deref.result.now c.args.number c.index-agent.result.now c.deref-2.result.now low c.index-agent.ensures
    c.deref-2.ensures c.deref.ensures.value) c.narrow.ensures.narrowed)
