use Rattle.std.proofs.Common.{ap, arith}
use Rattle.domain_ranges.proofs.StackedSets.{room_more, same_waiting, same_sets}
use Rattle.domain_ranges.proofs.set_stack.SetStack.reserve.Goals as goal

pub returns-clause-room : goal.returns-clause-room
returns-clause-room c = room_more c.self.inside.starts.items c.self.inside.spans.items c.args.self.now.sets _ c.args.more _ c.self.inside.starts.ok.0
    (ap (λ w. w.sets) c.self.view_is) (let l = c.in_ok-reserve-2.ensures.len in let k = c.in_ok-reserve-2.ensures.ok in omega arith)

pub invariant_of-self-2 : goal.invariant_of-self-2
invariant_of-self-2 c = same_waiting c.self.inside.starts.items c.reserve-2.new.self.items c.self.inside.spans.items c.reserve.new.self.items
    c.reserve-2.ensures.items c.reserve.ensures.items c.self.invariant

pub returns-clause-sets : goal.returns-clause-sets
returns-clause-sets c = same_sets c.self.inside.starts.items c.reserve-2.new.self.items c.self.inside.spans.items c.reserve.new.self.items c.args.self.now.sets
    c.reserve-2.ensures.items c.reserve.ensures.items (ap (λ w. w.sets) c.self.view_is)

pub invariant_of-self-in_err-reserve-2 : goal.invariant_of-self-in_err-reserve-2
invariant_of-self-in_err-reserve-2 c = same_waiting c.self.inside.starts.items c.reserve-2.new.self.items c.self.inside.spans.items c.reserve.new.self.items
    c.reserve-2.ensures.items c.reserve.ensures.items c.self.invariant

pub returns-in_err-reserve-2-clause-sets : goal.returns-in_err-reserve-2-clause-sets
returns-in_err-reserve-2-clause-sets c = same_sets c.self.inside.starts.items c.reserve-2.new.self.items c.self.inside.spans.items c.reserve.new.self.items
    c.args.self.now.sets c.reserve-2.ensures.items c.reserve.ensures.items (ap (λ w. w.sets) c.self.view_is)
