use Rattle.std.proofs.Common.{nat_eq, sym, ◌∙◌}
use Rattle.range_code.proofs.CompiledRanges.{none_passes}
use Rattle.range_code.proofs.compile.slot.Goals as goal

pub returns-in-None : goal.returns-in-None
returns-in-None c = none_passes (nat_eq c.args.variable) c.args.numbers.now.keys c.len.result (sym c.get_index_of.ensures.index ∙ c.in-None.is) c.len.ensures.len
