use Rattle.std.proofs.Common.{◌++◌}
use Rattle.fd_language.specs.PostfixRanges.{nodes_of}
use Rattle.constraint_expand.specs.Unions.{given_at, given_from, joined_nodes}
use Rattle.constraint_expand.proofs.Unions.{Writing}
use Rattle.constraint_expand.proofs.elements.union_nodes.Given as goal

abbrev pub invariant-loop-index : goal.invariant-loop-index
invariant-loop-index l = Writing l.direction l.variable (nodes_of (given_at l.direction l.variable 1 l.first)
    ++ joined_nodes (given_from l.direction l.variable 2 l.others)) l.nodes.items l.others l.index
