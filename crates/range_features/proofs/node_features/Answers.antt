use Rattle.std.proofs.Common.{ℕ, ◌+◌, List, ◌++◌, drop, sym, ap, ◌∙◌, arith, append-nil}
use Rattle.std.proofs.lemmas.List.{at_drop_more, at_drop_all}
use Rattle.fd_language.specs.declared.range_node.RangeNode.{RangeNode}
use Rattle.fd_language.specs.declared.range_node.Feature.{Feature}
use Rattle.range_features.specs.declared.Seen.{Seen}
use Rattle.range_features.specs.MetPairs.{unseen}
use Rattle.range_features.proofs.MetPairs.{none_met}
use Rattle.range_features.proofs.node_features.Goals as goal

pub loop-node-init : goal.loop-node-init
loop-node-init c =
    let seen : Seen = record { min = c.new.result; max = c.new-2.result; val = c.new-3.result; dom = c.new-4.result } in
    ap (λ (l : List (ℕ × Feature)). l ++ unseen seen c.args.nodes.now) c.new-found.ensures.items
    ∙ none_met seen c.new.ensures.empty c.new-2.ensures.empty c.new-3.ensures.empty c.new-4.ensures.empty c.args.nodes.now

pub loop-node-preserved : goal.loop-node-preserved
loop-node-preserved c =
    let found = c.loop-node.found.items in
    let seen = c.loop-node.seen in
    c.in_ok-take.ensures (drop (c.loop-node.node-index + 1) c.args.nodes.now)
    ∙ sym (at_drop_more (λ (ns : List RangeNode). found ++ unseen seen ns) c.args.nodes.now c.loop-node.node-index _ c.loop-node-test.true)
    ∙ c.loop-node.invariant

pub returns : goal.returns
returns c =
    let found = c.loop-node.found.items in
    let seen = c.loop-node.seen in
    sym (append-nil found) ∙ sym (at_drop_all (λ (ns : List RangeNode). found ++ unseen seen ns) c.args.nodes.now c.loop-node.node-index (omega arith)) ∙ c.loop-node.invariant
