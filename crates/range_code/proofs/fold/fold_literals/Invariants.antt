use Rattle.std.proofs.Common.{◌≡◌, take, reverse, fold, []}
use Rattle.range_code.specs.Pieces.{taken}
use Rattle.range_code.proofs.fold.fold_literals.Given as goal

abbrev pub invariant-loop-node : goal.invariant-loop-node
invariant-loop-node l = reverse l.pieces.items ≡ fold taken [] (take l.node-index l.nodes)
