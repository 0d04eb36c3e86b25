use Rattle.std.proofs.Common.{◌≤◌, ◌++◌, ◌∷◌, [], length, refl, ap, ◌∙◌, sym, subst, arith}
use Rattle.std.proofs.lemmas.List.Elements.{All-push}
use Rattle.range_code.specs.Heights.{height}
use Rattle.range_code.specs.QuickForms.{IsQuick}
use Rattle.propagate_queue.specs.declared.agents.Agent.{Agent}
use Rattle.propagate_queue.specs.AgentArguments.{HaveRoom}
use Rattle.propagate_queue.proofs.AgentArguments.{laid_more, quick_more}
use Rattle.propagate_queue.proofs.agents.Agents.push.Goals as goal

pub invariant_of-self-2 : goal.invariant_of-self-2
invariant_of-self-2 c =
    let t = c.self.inside in
    let a : Agent = record { code = c.args.code; target = c.args.target; first = c.len-first.result; count = length c.args.args.now; quick = c.quick_of-quick.result } in
    let list = c.push_reserved.ensures.items ∙ ap (λ l. l ++ a ∷ []) c.reserve.ensures.items in (
      (laid_more t.list.items c.push_reserved.new.self.items t.args.items c.extend_from_slice.new.self.items c.args.args.now a c.self.invariant.0
          c.in_ok-extend_from_slice.ensures.items list (omega (arith, c.len-first.ensures)) refl).0,
      subst (HaveRoom c.reserve-2.new.self) (sym list)
          (All-push (λ x. height x.code.value ≤ c.reserve-2.new.self) t.list.items a
          (λ k d less. omega (arith, c.self.invariant.1 k d less, c.reserve-2.ensures.kept))
          (omega (arith, c.in_ok-reserve-2.ensures.room, ap height c.deref.ensures))),
      quick_more t.list.items c.push_reserved.new.self.items t.args.items c.extend_from_slice.new.self.items c.args.args.now a c.self.invariant.0
          c.in_ok-extend_from_slice.ensures.items list (omega (arith, c.len-first.ensures)) refl c.self.invariant.2
          (subst (λ r. IsQuick r c.args.args.now c.quick_of-quick.result) c.deref-2.ensures c.quick_of-quick.ensures),
    )

pub returns-clause-added : goal.returns-clause-added
returns-clause-added c =
    let t = c.self.inside in
    let a : Agent = record { code = c.args.code; target = c.args.target; first = c.len-first.result; count = length c.args.args.now; quick = c.quick_of-quick.result } in
    rw (← c.self.view_is)
    (laid_more t.list.items c.push_reserved.new.self.items t.args.items c.extend_from_slice.new.self.items c.args.args.now a c.self.invariant.0 c.in_ok-extend_from_slice.ensures.items
    (c.push_reserved.ensures.items ∙ ap (λ l. l ++ a ∷ []) c.reserve.ensures.items) (omega (arith, c.len-first.ensures)) refl).1
