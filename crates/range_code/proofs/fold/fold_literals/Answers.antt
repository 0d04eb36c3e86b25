use Rattle.std.proofs.Common.{fold, [], ◌∷◌, take, get_or, ap, sym, ◌∙◌}
use Rattle.std.proofs.lemmas.List.{take_more}
use Rattle.std.proofs.lemmas.List.Sums.{fold-append}
use Rattle.range_code.specs.Pieces.{taken}
use Rattle.range_code.proofs.fold.fold_literals.Goals as goal

pub loop-node-preserved : goal.loop-node-preserved
loop-node-preserved c =
    let nodes = c.args.nodes.now in
    let i = c.loop-node.node-index in
    let node = get_or nodes i _ in
    c.in_ok-add_node.ensures ∙ (ap (λ ps. taken ps node) c.loop-node.invariant ∙ sym (ap (fold taken []) (take_more nodes i _ c.loop-node-test.true) ∙ fold-append taken [] (take i nodes) (node ∷ [])))
