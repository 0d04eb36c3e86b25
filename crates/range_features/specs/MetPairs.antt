-- The pairs of a variable and a feature that were met.
use Rattle.std.specs.Prelude.{◌≡◌, ℕ, Bool, not, nat_eq, List, ◌∷◌, ◌++◌, filter}
use Rattle.std.specs.List.{list_any}
use Rattle.fd_language.specs.declared.range_node.RangeNode.{RangeNode}
use Rattle.fd_language.specs.declared.range_node.Feature.{Feature}
use Rattle.fd_language.specs.declared.range_node.Feature.TheVariants as feature
use Rattle.fd_language.specs.Features.{each_once, node_features}
use Rattle.range_features.specs.declared.Seen.{Seen}

-- whether the pair was met
abbrev pub sees : Seen → ℕ × Feature → Bool
sees s (y, feature.Min) = list_any (nat_eq y) s.min.keys
sees s (y, feature.Max) = list_any (nat_eq y) s.max.keys
sees s (y, feature.Val) = list_any (nat_eq y) s.val.keys
sees s (y, feature.Dom) = list_any (nat_eq y) s.dom.keys

-- the pairs of these nodes that were not met, each once
abbrev pub unseen : Seen → List RangeNode → List (ℕ × Feature)
unseen s ns = filter (λ e. not (sees s e)) (each_once (node_features ns))

-- what is found and what is to come stay the same when the node is taken
abbrev pub Meets : RangeNode → Seen → List (ℕ × Feature) → Seen → List (ℕ × Feature) → Type 0
Meets n old found new found_new = (ns : List RangeNode) → found_new ++ unseen new ns ≡ found ++ unseen old (n ∷ ns)
