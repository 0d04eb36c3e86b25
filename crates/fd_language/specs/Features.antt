-- What a range reads of its variables.
use Rattle.std.specs.Prelude.{ℕ, Bool, true, false, ◌&&◌, not, ◌==◌, List, [], ◌∷◌, filter, flat_map}
use Rattle.fd_language.specs.declared.range_node.Feature.{Feature}
use Rattle.fd_language.specs.declared.range_node.Feature.TheVariants as feature
use Rattle.fd_language.specs.declared.range_node.RangeNode.{RangeNode}
use Rattle.fd_language.specs.Range.{Range, Expr, Leaf, Role, a_parameter, a_min, a_max, a_val, a_dom, from_node, from_expr, from_range}

-- the variable of a leaf with what is read of it
abbrev pub feature_by : Role → ℕ → List (ℕ × Feature)
feature_by a_parameter y = []
feature_by a_min y = (y, feature.Min) ∷ []
feature_by a_max y = (y, feature.Max) ∷ []
feature_by a_val y = (y, feature.Val) ∷ []
feature_by a_dom y = (y, feature.Dom) ∷ []

abbrev pub feature_at : Leaf → List (ℕ × Feature)
feature_at l = feature_by l.role l.variable

-- A variable with what is read of it, for each min, max, val and dom, in text order.
abbrev pub expr_features : Expr → List (ℕ × Feature)
expr_features t = from_expr feature_at t

abbrev pub range_features : Range → List (ℕ × Feature)
range_features r = from_range feature_at r

-- the same of nodes
abbrev pub node_features : List RangeNode → List (ℕ × Feature)
node_features ns = flat_map (from_node feature_at) ns

abbrev pub is_same_feature : Feature → Feature → Bool
is_same_feature feature.Min feature.Min = true
is_same_feature feature.Max feature.Max = true
is_same_feature feature.Val feature.Val = true
is_same_feature feature.Dom feature.Dom = true
is_same_feature f g = false

abbrev pub is_val : Feature → Bool
is_val feature.Val = true
is_val f = false

-- the same of the same variable
abbrev pub is_same_pair : ℕ × Feature → ℕ × Feature → Bool
is_same_pair d e = (d.0 == e.0) && is_same_feature d.1 e.1

-- each pair once, in the order of first occurrence
abbrev pub each_once : List (ℕ × Feature) → List (ℕ × Feature)
each_once [] = []
each_once (d ∷ ds) = d ∷ filter (λ e. not (is_same_pair e d)) (each_once ds)

-- the pairs of a variable and a feature that the range reads
abbrev pub features_of : Range → List (ℕ × Feature)
features_of r = each_once (range_features r)
