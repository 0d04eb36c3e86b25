use Rattle.std.proofs.Common.{refl}
use Rattle.fd_language.proofs.SpelledNodes.{spells_same}
use Rattle.fd_language.proofs.flat_range.FlatRange.from_nodes.Goals as goal

pub invariant_of-result : goal.invariant_of-result
invariant_of-result c = spells_same _ _ c.deref.ensures.value (c.if-spells_range.ensures.0 refl)

pub returns-then-spells_range : goal.returns-then-spells_range
returns-then-spells_range c = spells_same _ _ c.deref.ensures.value (c.if-spells_range.ensures.0 refl)
