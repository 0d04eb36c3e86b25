use Rattle.std.proofs.Common.{ap}
use Rattle.heap_cells.specs.SeenTerms.{link_of}
use Rattle.branch_state.proofs.shown_terms.open_domain.Goals as goal

pub domain-domain-requires : goal.domain-domain-requires
domain-domain-requires g c = let s = c.in-Constrained.ensures.seen in c.requires c.in-Constrained.j c.in-Constrained.k (ap link_of s.1)
