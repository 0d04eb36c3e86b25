use Rattle.std.proofs.Common.{◌∙◌}
use Rattle.domain_ranges.proofs.OtherMembers.{ends_ordered, ends_all}
use Rattle.domain_ranges.proofs.Domain.copy.Goals as goal

pub of_span-requires-clause-order : goal.of_span-requires-clause-order
of_span-requires-clause-order c = (ends_ordered c.self.inside.list.items c.args.self.now c.self.inside.ends c.self.invariant c.self.view_is).0

pub of_span-requires-clause-high : goal.of_span-requires-clause-high
of_span-requires-clause-high c = (ends_ordered c.self.inside.list.items c.args.self.now c.self.inside.ends c.self.invariant c.self.view_is).1

pub returns-clause-set : goal.returns-clause-set
returns-clause-set c = c.of_span.ensures ∙ ends_all c.self.inside.list.items c.args.self.now c.self.inside.ends c.self.invariant c.self.view_is (c.is_interval.ensures.0 c.if-not-is_interval.false)
