-- The leaves of a range tell all that is collected of it.
use Rattle.std.specs.Prelude.{◌≡◌, length, flat_map, filter_map}
use Rattle.fd_language.specs.Range.{Range, leaves, leaf_of, reads, read_at, vals, val_at, params, param_at}
use Rattle.fd_language.specs.Occurrences.{range_occurrences, occurrence_at}
use Rattle.fd_language.specs.Features.{range_features, feature_at, node_features}
use Rattle.fd_language.specs.PostfixRanges.{nodes_of}
use Rattle.fd_language.specs.RangeVerdict.{range_size}

-- What a range reads, its vals, its parameters, the occurrences of its variables and its features are filters of the list of its leaves, in text order.
pub record AreOfLeaves (r : Range) : Type 0 where
  pub reads_are : reads r ≡ flat_map read_at (leaves r)
  pub vals_are : vals r ≡ flat_map val_at (leaves r)
  pub params_are : params r ≡ flat_map param_at (leaves r)
  pub occurrences_are : range_occurrences r ≡ flat_map occurrence_at (leaves r)
  pub features_are : range_features r ≡ flat_map feature_at (leaves r)

-- The nodes have the same leaves in the same order, and there are as many nodes as the size says.
pub record AreNodesOf (r : Range) : Type 0 where
  pub node_leaves : filter_map leaf_of (nodes_of r) ≡ leaves r
  pub features_are : node_features (nodes_of r) ≡ range_features r
  pub size : length (nodes_of r) ≡ range_size r

abbrev pub LeavesTell : Type 0
LeavesTell = (r : Range) → AreOfLeaves r × AreNodesOf r
