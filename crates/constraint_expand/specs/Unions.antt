-- What an element and its number give of each other.
use Rattle.std.specs.Prelude.{ℕ, ℤ, pos, List, [], ◌∷◌, ◌++◌}
use Rattle.fd_language.specs.PostfixRanges.{nodes_of}
use Rattle.fd_language.specs.Range.{Range, Indexical}
use Rattle.fd_language.specs.declared.range_node.RangeNode.{RangeNode}
use Rattle.fd_language.specs.declared.range_node.RangeNode.TheVariants as node
use Rattle.fd_model.specs.ListRows.{where_is, union_of, elements_at, index_ranges}
use Rattle.constraint_expand.specs.declared.elements.Direction.{Direction}
use Rattle.constraint_expand.specs.declared.elements.Direction.TheVariants as direction

abbrev pub given_at : Direction → ℕ → ℕ → ℤ → Range
given_at direction.ElementAt y k z = where_is (pos k) y z
given_at direction.NumberOf y k z = where_is z y (pos k)

abbrev pub given_from : Direction → ℕ → ℕ → List ℤ → List Range
given_from direction.ElementAt y k zs = elements_at y k zs
given_from direction.NumberOf y k zs = index_ranges y k zs

-- the row of the target, where the variable y gives it its numbers
abbrev pub given_row : ℕ → Direction → ℕ → List ℤ → Indexical
given_row x d y zs = record { target = x; range = union_of (given_from d y 1 zs) }

-- the nodes of ranges that are joined to one before them
abbrev pub joined_nodes : List Range → List RangeNode
joined_nodes [] = []
joined_nodes (r ∷ rs) = nodes_of r ++ (node.Union ∷ joined_nodes rs)
