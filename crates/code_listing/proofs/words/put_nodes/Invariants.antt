use Rattle.std.proofs.Common.{◌≡◌, ◌++◌, take, map, codes}
use Rattle.code_listing.specs.Words.{between}
use Rattle.code_listing.specs.Texts.{node_text}
use Rattle.code_listing.proofs.words.put_nodes.Given as goal

abbrev pub invariant-loop-index : goal.invariant-loop-index
invariant-loop-index l = l.text.items ≡ l.initial.text.items ++ between (codes " ") (map node_text (take l.index l.nodes))
