use Rattle.std.proofs.Common.{◌≡◌, ◌++◌, drop}
use Rattle.constraint_expand.specs.Nodes.{product_nodes}
use Rattle.constraint_expand.proofs.rows.write_products.Given as goal

abbrev pub invariant-loop-term : goal.invariant-loop-term
invariant-loop-term l = l.nodes.items ++ product_nodes l.reading (drop l.term-index l.terms) ≡ product_nodes l.reading l.terms
