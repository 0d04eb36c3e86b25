use Rattle.std.proofs.Common.{nat_eq, sym, ◌∙◌}
use Rattle.code_listing.proofs.SlotNodes.{none_passes}
use Rattle.code_listing.proofs.slots.slot_of.Goals as goal

pub returns-in-None : goal.returns-in-None
returns-in-None c = none_passes (nat_eq c.args.variable) c.args.met.now.keys c.len.result (sym c.get_index_of.ensures.index ∙ c.in-None.is) c.len.ensures.len
