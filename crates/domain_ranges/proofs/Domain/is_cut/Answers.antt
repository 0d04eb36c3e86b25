use Rattle.domain_ranges.proofs.Ends.{ends_inside, ends_outside, none_inside}
use Rattle.domain_ranges.proofs.Domain.is_cut.Goals as goal

pub returns-then-greatest-bounds-clause-no : goal.returns-then-greatest-bounds-clause-no
returns-then-greatest-bounds-clause-no c = λ _. ends_inside c.args.bounds c.requires.order c.requires.high c.self.inside.list.items c.args.self.now
    c.self.inside.ends c.self.invariant c.self.view_is c.if-bounds-least.true c.if-greatest-bounds.true

pub returns-clause-no : goal.returns-clause-no
returns-clause-no c = λ f. none_inside c.spans.result.now c.args.self.now _ c.is_empty.result c.spans.ensures.members c.is_empty.ensures f

pub returns-clause-yes : goal.returns-clause-yes
returns-clause-yes c = λ t. ends_outside c.args.bounds c.requires.order c.requires.high c.self.inside.list.items c.args.self.now c.self.inside.ends
    c.self.invariant c.self.view_is c.spans.result.now c.is_empty.result c.spans.ensures.spans c.spans.ensures.members c.is_empty.ensures t
    c.else-bounds-least.either
