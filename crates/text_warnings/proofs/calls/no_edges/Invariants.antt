use Rattle.std.proofs.Common.{◌≡◌, length, map}
use Rattle.text_warnings.specs.Graphs.{items_of, AreEmpty}
use Rattle.text_warnings.proofs.calls.no_edges.Given as goal

abbrev pub invariant-loop-number : goal.invariant-loop-number
invariant-loop-number l = record { count : length l.edges.items ≡ l._number; empty : AreEmpty (map items_of l.edges.items) }
