use Rattle.std.proofs.Common.{map}
use Rattle.text_warnings.specs.Graphs.{items_of}
use Rattle.text_warnings.proofs.ReachedNumbers.{IsReaching}
use Rattle.text_warnings.proofs.reach.reach.Given as goal

abbrev pub invariant-loop-at : goal.invariant-loop-at
invariant-loop-at l = IsReaching l.starts (map items_of l.edges) l.at l.reached.keys
