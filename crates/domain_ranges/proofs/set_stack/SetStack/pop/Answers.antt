use Rattle.std.proofs.Common.{ap, subst, sym, ◌∙◌, ◌≡◌, length, arith}
use Rattle.std.specs.Prelude.{reverse}
use Rattle.domain_ranges.specs.StackedSets.{stacked, AreStarts}
use Rattle.domain_ranges.proofs.StackedSets.{room_behind, top_starts, top_intervals, top_view, top_numbers, fewer_sets}
use Rattle.domain_ranges.proofs.set_stack.SetStack.pop.Goals as goal

pub push_reserved-requires : goal.push_reserved-requires
push_reserved-requires c = let a = c.in-Some.ensures.cases in let b = c.self.inside.starts.ok.1 in let e = c.pop.ensures.capacity in omega arith

pub invariant_of-self-in-Err : goal.invariant_of-self-in-Err
invariant_of-self-in-Err c =
    let same : c.push_reserved.new.self.items ≡ c.self.inside.starts.items = c.push_reserved.ensures.items ∙ sym c.in-Some.ensures.items in
    (subst (λ l. AreStarts (reverse l) (length c.self.inside.spans.items)) (sym same) c.self.invariant.0, c.self.invariant.1)

pub returns-in-Err-clause-unchanged : goal.returns-in-Err-clause-unchanged
returns-in-Err-clause-unchanged c =
    let same : c.push_reserved.new.self.items ≡ c.self.inside.starts.items = c.push_reserved.ensures.items ∙ sym c.in-Some.ensures.items in
    ap (λ l. stacked (reverse l) c.self.inside.spans.items) same ∙ ap (λ w. w.sets) c.self.view_is

pub returns-in-Ok-clause-left : goal.returns-in-Ok-clause-left
returns-in-Ok-clause-left c = room_behind c.pop.new.self.items c.truncate.new.self.items _ _ _ _ c.pop.new.self.ok.0 c.in-Some.ensures.cases c.self.inside.starts.ok.1 c.pop.ensures.capacity

pub invariant_of-self-in-Ok : goal.invariant_of-self-in-Ok
invariant_of-self-in-Ok c = (
  top_starts c.self.inside.starts.items c.pop.new.self.items c.in-Some.from c.self.inside.spans.items c.truncate.new.self.items c.in-Some.ensures.items c.truncate.ensures.items c.self.invariant.0,
  top_intervals c.self.inside.starts.items c.pop.new.self.items c.in-Some.from c.self.inside.spans.items c.truncate.new.self.items c.truncate.ensures.items c.self.invariant.1,
)

pub returns-in-Ok-clause-popped : goal.returns-in-Ok-clause-popped
returns-in-Ok-clause-popped c = top_view c.self.inside.starts.items c.pop.new.self.items c.in-Some.from c.self.inside.spans.items c.truncate.new.self.items
    c.args.self.now.sets c.of_list.result c.in-Some.ensures.items c.truncate.ensures.items (ap (λ w. w.sets) c.self.view_is)
    (c.of_list.ensures ∙ (c.in-Ok.ensures.set ∙ top_numbers c.in-Some.from c.self.inside.spans.items c.deref.result.now c.deref.ensures.value))

pub returns-in-Ok-clause-fewer : goal.returns-in-Ok-clause-fewer
returns-in-Ok-clause-fewer c =
    fewer_sets c.self.inside.starts.items c.pop.new.self.items c.self.inside.spans.items c.truncate.new.self.items c.args.self.now.sets _ _
    c.self.inside.starts.ok.0 c.pop.new.self.ok.0 (ap (λ w. w.sets) c.self.view_is) (let e = c.in-Some.ensures.cases in omega arith)
