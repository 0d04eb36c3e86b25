-- A number that falls with each step of a search.
use Rattle.std.specs.Prelude.{ℕ, zero, suc, ◌+◌, ◌*◌, ◌==◌, not, List, [], ◌∷◌, map, filter, length}
use Rattle.fd_language.specs.declared.TheConstants.{INFINITY}
use Rattle.fd_model.specs.Labelling.{open_ones}
use Rattle.fd_model.specs.Levels.{Level}
use Rattle.fd_model.specs.Members as seen
use Rattle.fd_model.specs.PostedLeaves.{seen_in}
use Rattle.range_code.specs.Frames.{family_of}
use Rattle.bound_search.specs.declared.search.Node.{Node}
use Rattle.bound_search.specs.SearchStates.{values_left}

-- how many members are seen as open ones on the level
abbrev pub open_count : List seen.Member → Level → ℕ
open_count ms l = length (open_ones (map (seen_in (family_of l.sets)) ms))

-- more than all nodes below one with so many open members
unfoldable pub tree_size : ℕ → ℕ
tree_size zero = 1
tree_size (suc h) = (INFINITY + 3) * tree_size h

-- how many of them aren't the variable x
abbrev pub open_beside : ℕ → List seen.Member → Level → ℕ
open_beside x ms l = length (filter (λ y. not (y == x)) (open_ones (map (seen_in (family_of l.sets)) ms)))

-- what is left of an open node: itself, and the trees of the values that weren't tried
abbrev pub node_work : List seen.Member → Node → Level → ℕ
node_work ms n l = 1 + length (values_left l n) * tree_size (open_beside n.variable ms l)

abbrev pub work : List seen.Member → List Node → List Level → ℕ
work ms [] ls = 0
work ms (n ∷ ns) [] = 0
work ms (n ∷ ns) (l ∷ ls) = node_work ms n l + work ms ns ls
