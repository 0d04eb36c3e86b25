use Rattle.std.proofs.Common.{ap, ◌∙◌, length}
use Rattle.domain_ranges.proofs.StackedSets.{popped_starts, one_fewer, fewer_sets, unite_is}
use Rattle.domain_ranges.proofs.set_stack.SetStack.unite.Goals as goal

pub invariant_of-self : goal.invariant_of-self
invariant_of-self c = (
  popped_starts c.self.inside.starts.items c.pop-top.new.self.items c.pop-top.result (length c.self.inside.spans.items) c.self.invariant.0
      c.pop-top.ensures.items,
  c.self.invariant.1,
)

pub returns-clause-united : goal.returns-clause-united
returns-clause-united c = λ r q rest e. unite_is c.self.inside.starts.items c.pop-top.new.self.items c.pop-top.result c.self.inside.spans.items _ _
    c.self.invariant.0 c.pop-top.ensures.items c.pop-top.ensures.cases c.self.inside.starts.ok.0 r q rest (ap (λ w. w.sets) c.self.view_is ∙ e)

pub returns-clause-fewer : goal.returns-clause-fewer
returns-clause-fewer c =
    fewer_sets c.self.inside.starts.items c.pop-top.new.self.items c.self.inside.spans.items c.self.inside.spans.items c.args.self.now.sets _ _
    c.self.inside.starts.ok.0 c.pop-top.new.self.ok.0 (ap (λ w. w.sets) c.self.view_is) (one_fewer c.pop-top.result _ _ c.pop-top.ensures.cases)
