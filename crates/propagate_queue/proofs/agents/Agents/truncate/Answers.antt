use Rattle.std.proofs.Common.{◌≤◌, arith, sym, subst}
use Rattle.std.proofs.lemmas.List.Elements.{All-take}
use Rattle.range_code.specs.Heights.{height}
use Rattle.propagate_queue.specs.AgentArguments.{HaveRoom}
use Rattle.propagate_queue.proofs.AgentArguments.{laid_less, quick_less}
use Rattle.propagate_queue.proofs.agents.Agents.truncate.Goals as goal

pub invariant_of-self : goal.invariant_of-self
invariant_of-self c =
    let t = c.self.inside in
    let laid = (laid_less t.list.items c.truncate-then-n-len.new.self.items t.args.items c.truncate.new.self.items c.args.n c.index.result.now
    c.self.invariant.0 (omega (arith, c.if-n-len.true, c.len.ensures)) c.index.ensures c.truncate-then-n-len.ensures.items c.truncate.ensures.items).0 in (
      laid,
      subst (HaveRoom t.stacks) (sym c.truncate-then-n-len.ensures.items) (All-take (λ a. height a.code.value ≤ t.stacks) c.args.n t.list.items c.self.invariant.1),
      quick_less t.list.items c.truncate-then-n-len.new.self.items t.args.items c.truncate.new.self.items c.args.n c.index.result.now laid
          c.truncate-then-n-len.ensures.items c.truncate.ensures.items c.self.invariant.2,
    )

pub returns-then-n-len : goal.returns-then-n-len
returns-then-n-len c =
    let t = c.self.inside in
    rw (← c.self.view_is) (laid_less t.list.items c.truncate-then-n-len.new.self.items t.args.items c.truncate.new.self.items c.args.n c.index.result.now
    c.self.invariant.0 (omega (arith, c.if-n-len.true, c.len.ensures)) c.index.ensures c.truncate-then-n-len.ensures.items c.truncate.ensures.items).1
