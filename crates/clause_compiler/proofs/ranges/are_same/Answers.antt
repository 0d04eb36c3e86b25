use Rattle.std.proofs.Common.{◌≡◌, ◌∙◌, ap, sym}
use Rattle.fd_language.specs.Range.{Range}
use Rattle.fd_language.specs.PostfixRanges.{nodes_of, spelled_range, spelled_range-nodes}
use Rattle.clause_compiler.proofs.ranges.are_same.Goals as goal

-- The nodes tell which range it is.
same_range : (q r : Range) → nodes_of q ≡ nodes_of r → q ≡ r
same_range q r e = sym (spelled_range-nodes q) ∙ ap spelled_range e ∙ spelled_range-nodes r

pub returns : goal.returns
returns c = (
  λ t. same_range c.args.a.now c.args.b.now (sym c.nodes.ensures ∙ c.are_same_nodes.ensures.0 t ∙ c.nodes-2.ensures),
  λ e. c.are_same_nodes.ensures.1 (c.nodes.ensures ∙ ap nodes_of e ∙ sym c.nodes-2.ensures),
)
