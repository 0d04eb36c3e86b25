use Rattle.std.proofs.Common.{ap, ◌∙◌, sym, length, arith}
use Rattle.std.specs.Prelude.{reverse}
use Rattle.domain_ranges.proofs.StackedSets.{wait_more, intervals_push, added_view, length_stacked}
use Rattle.domain_ranges.proofs.set_stack.SetStack.add.Goals as goal

pub invariant_of-self-2 : goal.invariant_of-self-2
invariant_of-self-2 c = (
  wait_more (reverse c.self.inside.starts.items) c.self.inside.spans.items _ c.push.new.self.items c.self.invariant.0 c.in_ok-push.ensures.items,
  intervals_push c.self.inside.spans.items (c.args.n, c.args.n) c.push.new.self.items c.in_ok-push.ensures.items c.self.invariant.1 (omega arith) c.requires,
)

pub returns-clause-added : goal.returns-clause-added
returns-clause-added c = λ r rest e. added_view (reverse c.self.inside.starts.items) c.self.inside.spans.items c.push.new.self.items c.args.n c.self.invariant.0
    c.in_ok-push.ensures.items r rest (ap (λ w. w.sets) c.self.view_is ∙ e)

pub returns-clause-height : goal.returns-clause-height
returns-clause-height c = length_stacked (reverse c.self.inside.starts.items) c.push.new.self.items
    ∙ (sym (length_stacked (reverse c.self.inside.starts.items) c.self.inside.spans.items) ∙ ap (λ w. length w.sets) c.self.view_is)
