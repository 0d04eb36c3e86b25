use Rattle.std.proofs.Common.{◌≡◌, ◌++◌, All, List, length, map}
use Rattle.fd_language.specs.declared.range_node.RangeNode.{RangeNode}
use Rattle.listing_reader.specs.NumberBounds.{HasSize}
use Rattle.listing_reader.specs.Nodes.{nodes_words}
use Rattle.listing_reader.proofs.NodeWords.{CanFollow}
use Rattle.listing_reader.proofs.read_nodes.read_nodes.Given as goal

abbrev pub invariant-loop-rest : goal.invariant-loop-rest
invariant-loop-rest l = record {
  fit : All HasSize l.nodes.items;
  told : map (λ w. w.now) l.words ≡ nodes_words l.nodes.items ++ map (λ w. w.now) l.rest;
  ahead : (ms : List RangeNode) → All HasSize ms → nodes_words ms ≡ map (λ w. w.now) l.words → CanFollow (map (λ w. w.now) l.rest);
}

abbrev pub decreases-loop-rest : goal.decreases-loop-rest
decreases-loop-rest l = length l.rest
