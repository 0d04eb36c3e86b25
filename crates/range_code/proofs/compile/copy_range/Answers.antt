use Rattle.range_code.proofs.CompiledRanges.{copied}
use Rattle.range_code.proofs.compile.copy_range.Goals as goal

pub returns : goal.returns
returns c = copied c.from_nodes.result c.unwrap.result c.args.range.now _ c.in_ok-nodes.nodes.items c.nodes.result.now c.unwrap.ensures c.from_nodes.ensures c.in_ok-nodes.ensures.items c.nodes.ensures
