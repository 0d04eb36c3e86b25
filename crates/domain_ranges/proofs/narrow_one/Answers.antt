use Rattle.domain_ranges.proofs.Inclusion.{met_one, met_none}
use Rattle.domain_ranges.proofs.narrow_one.Goals as goal

pub returns-then-low-high : goal.returns-then-low-high
returns-then-low-high c = met_one c.args.span c.args.bounds c.max-low.result c.min-high.result c.of_span.result c.max-low.ensures c.min-high.ensures c.if-low-high.true c.of_span.ensures

pub returns-else-low-high : goal.returns-else-low-high
returns-else-low-high c = met_none c.args.span c.args.bounds c.max-low.result c.min-high.result c.max-low.ensures c.min-high.ensures c.if-low-high.false
