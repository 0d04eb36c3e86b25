use Rattle.std.proofs.Common.{◌<◌, length, ap, sym, subst, arith}
use Rattle.std.proofs.lemmas.List.{length-map}
use Rattle.fd_language.specs.declared.TheConstants.{INFINITY}
use Rattle.fd_language.specs.Range.{Range, set_of}
use Rattle.range_code.specs.Frames.{family_of}
use Rattle.range_code.specs.SetReaches.{IsReach}
use Rattle.propagate_queue.specs.AgentArguments.{laid}
use Rattle.propagate_queue.specs.Postings.{posting_at, ranged}
use Rattle.propagate_queue.proofs.AgentArguments.{code_of, quick_at}
use Rattle.propagate_queue.proofs.agents.Agents.find_reach.Goals as goal

pub returns-in-Other : goal.returns-in-Other
returns-in-Other g c =
    let t = c.self.inside in
    let low : c.args.number < length t.list.items = omega (arith, c.requires.number, ap length c.self.view_is, length-map t.list.items (laid t.args.items)) in
    rw (← c.self.view_is)
    (subst (λ (q : Range). IsReach (set_of INFINITY (family_of (g.V.View.sets c.args.view.now)) q) c.find_reach.result)
    (code_of t.list.items t.args.items c.deref.result.now c.args.number c.index-agent.result.now c.deref-in-Other.result.now low c.index-agent.ensures
    c.deref-in-Other.ensures c.deref.ensures.value) c.find_reach.ensures)

pub quick_reach-requires : goal.quick_reach-requires
quick_reach-requires g c =
    let t = c.self.inside in
    let low : c.args.number < length t.list.items = omega (arith, c.requires.number, ap length c.self.view_is, length-map t.list.items (laid t.args.items)) in
    let k = rw c.self.view_is at (quick_at t.list.items t.args.items c.args.number c.index-agent.result.now low c.index-agent.ensures c.self.invariant.2) in
    k.within (length (g.V.View.sets c.args.view.now)) c.requires.frame

pub returns : goal.returns
returns g c =
    let t = c.self.inside in
    let low : c.args.number < length t.list.items = omega (arith, c.requires.number, ap length c.self.view_is, length-map t.list.items (laid t.args.items)) in
    let k = rw c.self.view_is at (quick_at t.list.items t.args.items c.args.number c.index-agent.result.now low c.index-agent.ensures c.self.invariant.2) in
    subst (IsReach (set_of INFINITY (family_of (g.V.View.sets c.args.view.now)) (ranged (posting_at c.args.self.now c.args.number)).range))
    (sym c.quick_reach.ensures) (k.reach (g.V.View.sets c.args.view.now) c.requires.frame c.requires.some)
