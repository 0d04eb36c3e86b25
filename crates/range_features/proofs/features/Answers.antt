use Rattle.std.proofs.Common.{◌≡◌, List, ap, ◌∙◌}
use Rattle.std.proofs.lemmas.Result.{IfOk-weaker}
use Rattle.fd_language.specs.declared.range_node.RangeNode.{RangeNode}
use Rattle.fd_language.specs.Features.{feature_at, each_once, node_features, features_of}
use Rattle.fd_language.proofs.Lemmas.{whole_nodes}
use Rattle.range_features.proofs.features.Goals as goal

pub returns : goal.returns
returns c =
    IfOk-weaker c.node_features.result (λ v. v.items ≡ each_once (node_features c.nodes.result.now)) (λ v. v.items ≡ features_of c.args.range.now)
    (λ v e. e ∙ ap (λ (ns : List RangeNode). each_once (node_features ns)) c.nodes.ensures ∙ ap each_once (whole_nodes feature_at c.args.range.now)) c.node_features.ensures
