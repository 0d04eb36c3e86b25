use Rattle.std.proofs.Common.{◌∙◌, ap, map, sym, subst, filter, fold, length, []}
use Rattle.std.proofs.lemmas.List.{reverse-reverse}
use Rattle.fd_language.specs.declared.range_node.Feature.TheVariants as feature
use Rattle.fd_language.specs.Family.{count_up}
use Rattle.fd_language.specs.Features.{each_once, node_features}
use Rattle.range_code.specs.Heights.{tallest}
use Rattle.range_code.specs.ValSlots.{has_pair}
use Rattle.range_code.specs.Pieces.{piece_node, pieces_of, taken, literals}
use Rattle.range_code.specs.CodeFields.{AreStepsOf}
use Rattle.range_code.proofs.CompiledRanges.{compiled, none_there}
use Rattle.range_code.proofs.compile_shape.Goals as goal

pub invariant_of-result : goal.invariant_of-result
invariant_of-result c =
    let s = c.args.shape in
    let slots = s.slots.items in
    let nodes = s.nodes.items in
    let vals = c.in_ok-reads.reads.vals.items in
    let pieces = pieces_of nodes in
    compiled c.args.c.now c.in_ok-range.range slots nodes c.in_ok-reads.reads.features.items vals s.needs.items
    pieces c.in_ok-steps.steps c.in_ok-form.form c.in_ok-steps.height
    c.range.ensures.accepted (c.in_ok-range.ensures ∙ c.range.ensures.range)
    (record {
      slotted = c.requires.slots;
      needed = c.requires.needs;
      named = c.requires.nodes;
      features = c.in_ok-reads.ensures.features ∙ ap (λ l. each_once (node_features l)) c.deref.ensures.value;
      vals = c.in_ok-reads.ensures.vals
          ∙ ap (λ n. filter (λ s. has_pair c.in_ok-reads.reads.features.items (s, feature.Val)) (count_up 0 n)) (ap length c.as_slice.ensures.value);
    })
    (reverse-reverse (fold taken [] nodes))
    (subst (λ l. AreStepsOf l vals (literals pieces) (map piece_node pieces) c.in_ok-steps.steps) c.deref-3.ensures.value
    (subst (λ l. AreStepsOf c.deref-3.result.now l (literals pieces) (map piece_node pieces) c.in_ok-steps.steps) c.deref-4.ensures.value
    (subst (λ l. AreStepsOf c.deref-3.result.now c.deref-4.result.now (literals (pieces_of l)) (map piece_node (pieces_of l)) c.in_ok-steps.steps)
    c.deref-2.ensures.value c.in_ok-steps.ensures.steps)))
    (λ x h. c.in_ok-form.ensures.form x (c.deref-5.ensures.value ∙ h))
    (λ t. none_there vals _ (sym (ap length c.deref-4.ensures.value) ∙ c.deref-4.ensures.len) (sym c.is_empty.ensures ∙ c.in_ok-form.ensures.shifted t))
    (c.in_ok-steps.ensures.height ∙ ap (λ l. tallest (map piece_node (pieces_of l))) c.deref-2.ensures.value)
