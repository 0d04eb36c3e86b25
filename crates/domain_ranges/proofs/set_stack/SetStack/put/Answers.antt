use Rattle.std.proofs.Common.{ap, ◌∙◌, ◌++◌, ◌∷◌, []}
use Rattle.domain_ranges.specs.StackedSets.{numbers}
use Rattle.domain_ranges.proofs.StackedSets.{room_left, push_starts, push_view, intervals_all}
use Rattle.domain_ranges.proofs.set_stack.SetStack.put.Goals as goal

pub push_reserved-requires : goal.push_reserved-requires
push_reserved-requires c = room_left c.self.inside.starts.items c.self.inside.spans.items c.args.self.now.sets _ _ c.args.self.now.room
    c.self.inside.starts.ok.0 (ap (λ w. w.sets) c.self.view_is) (ap (λ w. w.room) c.self.view_is) c.requires.room

pub invariant_of-self-2 : goal.invariant_of-self-2
invariant_of-self-2 c = (
  push_starts c.self.inside.starts.items c.self.inside.spans.items c.args.spans.now c.push_reserved.new.self.items c.extend_from_slice.new.self.items
      (c.push_reserved.ensures.items ∙ ap (λ k. c.self.inside.starts.items ++ k ∷ []) (c.len-from.ensures ∙ c.self.inside.spans.ok.0)) c.in_ok-extend_from_slice.ensures.items c.self.invariant.0,
  intervals_all c.self.inside.spans.items c.args.spans.now c.extend_from_slice.new.self.items c.in_ok-extend_from_slice.ensures.items c.self.invariant.1 c.requires.spans,
)

pub returns-clause-pushed : goal.returns-clause-pushed
returns-clause-pushed c =
    push_view c.self.inside.starts.items c.self.inside.spans.items c.args.spans.now c.push_reserved.new.self.items c.extend_from_slice.new.self.items
    (c.push_reserved.ensures.items ∙ ap (λ k. c.self.inside.starts.items ++ k ∷ []) (c.len-from.ensures ∙ c.self.inside.spans.ok.0)) c.in_ok-extend_from_slice.ensures.items
    ∙ ap (λ l. numbers c.args.spans.now ∷ l) (ap (λ w. w.sets) c.self.view_is)
