use Rattle.std.proofs.Common.{◌∙◌}
use Rattle.listing_loader.proofs.ReadyRanges.{of_nodes}
use Rattle.listing_loader.proofs.ranges.range_of.Goals as goal

pub returns-in-Some : goal.returns-in-Some
returns-in-Some c = of_nodes c.args.nodes.now c.in-Some.range c.checked_range.result (c.in-Some.ensures ∙ c.in_ok-copy.ensures.items) c.checked_range.ensures
