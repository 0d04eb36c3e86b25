use Rattle.std.proofs.Common.{◌≡◌, ◌∙◌, sym, subst, true}
use Rattle.fd_language.specs.contracts.range_node.RangeNodePartialEq.TheImpl.{ghosts}
use Rattle.range_code.proofs.SameNodes.{node_same, node_alike}
use Rattle.range_code.proofs.renamed_ranges.is_same_node.Goals as goal

pub returns : goal.returns
returns c = (λ h. node_same c.args.a c.args.b (sym c.eq.ensures ∙ h), λ e. c.eq.ensures ∙ subst (λ b. ghosts.eq c.args.a b ≡ true) e (node_alike c.args.a))
