use Rattle.std.proofs.Common.{◌∙◌, List, All, length, ap, subst, ℕ}
use Rattle.fd_language.specs.declared.range_node.RangeNode.{RangeNode}
use Rattle.fd_language.specs.PostfixRanges.{nodes_of}
use Rattle.listing_reader.specs.NumberBounds.{HasSize, IsNumber}
use Rattle.held_code.proofs.Renaming.{slots_fit}
use Rattle.held_code.proofs.ranges.hold_range.Goals as goal

pub returns-clause-nodes : goal.returns-clause-nodes
returns-clause-nodes c =
    slots_fit c.args.range.now (subst (λ (ys : List ℕ). IsNumber (length ys)) c.slots.ensures c.hold_slots.ensures)
    (subst (λ (ns : List RangeNode). All HasSize ns) (c.nodes.ensures ∙ ap nodes_of c.range.ensures) c.hold_nodes.ensures)
