use Rattle.std.proofs.Common.{sym}
use Rattle.branch_state.specs.Codes.{bound_range}
use Rattle.bound_search.proofs.Lemmas.{spelled_there}
use Rattle.branch_state.proofs.codes.bound_code.Goals as goal

pub unwrap-range-requires : goal.unwrap-range-requires
unwrap-range-requires c = spelled_there c.in_ok-nodes.nodes.items _ c.from_nodes.result c.from_nodes.ensures (bound_range, sym c.in_ok-nodes.ensures.items)
