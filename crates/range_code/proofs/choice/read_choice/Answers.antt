use Rattle.std.proofs.Common.{rules, subst}
use Rattle.std.proofs.lemmas.List.Sorted.{IsNonDecreasingBy-from_sort_by_key}
use Rattle.range_code.specs.Choices.{IsPairAdded}
use Rattle.range_code.proofs.Choices.{choosing_first, choosing_more, choosing_whole}
use Rattle.range_code.proofs.choice.read_choice.Goals as goal

pub parts-init : goal.parts-init
parts-init c = choosing_first c.args.nodes.now c.in-Some.rest.now c.in-Some.first c.add_pair.new.pairs.items c.in-Some.ensures
    (subst (λ l. IsPairAdded c.in-Some.first l c.add_pair.new.pairs.items) c.new-pairs.ensures.items c.in_ok-add_pair.ensures)

pub parts-preserved : goal.parts-preserved
parts-preserved c = choosing_more c.args.nodes.now c.parts.rest.now c.in-Some-next_joined.behind.now c.in-Some.first.slot c.in-Some-next_joined.part
    c.parts.pairs.items c.add_pair-in-Some-next_joined.new.pairs.items c.parts.invariant c.in-Some-next_joined.ensures.part
    (search rules) c.in_ok-add_pair-2.ensures

pub returns : goal.returns
returns c = choosing_whole c.args.nodes.now c.parts.rest.now c.parts.pairs.items (record { slot = c.in-Some.first.slot; pairs = c.sort_unstable_by_key.new.self }) c.parts.invariant
    (search rules)
    c.sort_unstable_by_key.ensures.permutation (IsNonDecreasingBy-from_sort_by_key (λ d. d.1) _ c.sort_unstable_by_key.ensures.sorted (λ a r q k. search rules))
