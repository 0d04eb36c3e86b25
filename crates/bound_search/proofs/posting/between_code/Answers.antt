use Rattle.std.proofs.Common.{sym}
use Rattle.bound_search.specs.Posting.{between_range}
use Rattle.bound_search.proofs.PostedValues.{spelled_there}
use Rattle.bound_search.proofs.posting.between_code.Goals as goal

pub unwrap-range-requires : goal.unwrap-range-requires
unwrap-range-requires c = spelled_there c.in_ok-nodes.nodes.items _ c.from_nodes.result c.from_nodes.ensures (between_range, sym c.in_ok-nodes.ensures.items)
