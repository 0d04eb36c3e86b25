use Rattle.std.proofs.Common.{◌∙◌, sym, ap}
use Rattle.fd_language.specs.PostfixRanges.{nodes_of}
use Rattle.range_code.specs.Slots.{slot_needs, in_slots}
use Rattle.range_code.proofs.Renaming.{alike, same_slots, same_length}
use Rattle.range_code.proofs.RangeCode.has_shape.Goals as goal

pub returns-then-are_same_needs-clause-alike : goal.returns-then-are_same_needs-clause-alike
returns-then-are_same_needs-clause-alike c r h = (
  λ t. record {
    same = same_slots _ _ c.args.self.now r (c.deref-then-are_same_needs.ensures.value
        ∙ (c.self.invariant.nodes ∙ ap (λ r. nodes_of (in_slots r)) c.self.view_is)) (c.deref-then-are_same_needs-2.ensures.value ∙ h.nodes)
        (c.are_same_nodes.ensures.0 t);
    needs = sym (c.deref.ensures.value ∙ (c.self.invariant.needs ∙ ap slot_needs c.self.view_is)) ∙ (c.are_same_needs.ensures.0 c.if-are_same_needs.true ∙ (c.deref-2.ensures.value ∙ h.needs));
  },
  λ g. c.are_same_nodes.ensures.1 ((c.deref-then-are_same_needs.ensures.value ∙ (c.self.invariant.nodes ∙ ap (λ r. nodes_of (in_slots r)) c.self.view_is))
      ∙ (ap nodes_of g.same ∙ sym (c.deref-then-are_same_needs-2.ensures.value ∙ h.nodes))),
)

pub returns-then-are_same_needs-clause-posted : goal.returns-then-are_same_needs-clause-posted
returns-then-are_same_needs-clause-posted c r h t = alike c.args.self.now r
    (same_slots _ _ c.args.self.now r (c.deref-then-are_same_needs.ensures.value ∙ (c.self.invariant.nodes ∙ ap (λ r. nodes_of (in_slots r)) c.self.view_is))
    (c.deref-then-are_same_needs-2.ensures.value ∙ h.nodes) (c.are_same_nodes.ensures.0 t))

pub returns-then-are_same_needs-clause-needs : goal.returns-then-are_same_needs-clause-needs
returns-then-are_same_needs-clause-needs c r h t = sym (c.deref.ensures.value ∙ (c.self.invariant.needs ∙ ap slot_needs c.self.view_is))
    ∙ (c.are_same_needs.ensures.0 c.if-are_same_needs.true ∙ (c.deref-2.ensures.value ∙ h.needs))

pub returns-then-are_same_needs-clause-nodes : goal.returns-then-are_same_needs-clause-nodes
returns-then-are_same_needs-clause-nodes c r h t = same_length c.args.self.now r
    (same_slots _ _ c.args.self.now r (c.deref-then-are_same_needs.ensures.value ∙ (c.self.invariant.nodes ∙ ap (λ r. nodes_of (in_slots r)) c.self.view_is))
    (c.deref-then-are_same_needs-2.ensures.value ∙ h.nodes) (c.are_same_nodes.ensures.0 t))
