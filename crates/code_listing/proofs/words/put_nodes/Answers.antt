use Rattle.std.proofs.Common.{rules, codes}
use Rattle.code_listing.specs.Texts.{node_text}
use Rattle.code_listing.proofs.JoinedTexts.{between_step}
use Rattle.code_listing.proofs.words.put_nodes.Goals as goal

pub loop-index-preserved : goal.loop-index-preserved
loop-index-preserved c = between_step node_text c.args.nodes.now c.loop-index.index _ (search rules) (codes " ") c.args.text.now.items c.loop-index.text.items
    c.put_separator.new.text.items c.put_node.new.text.items c.loop-index.invariant c.in_ok-put_separator.ensures c.in_ok-put_node.ensures
