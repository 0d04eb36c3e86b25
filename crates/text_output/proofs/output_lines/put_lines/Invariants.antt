use Rattle.std.proofs.Common.{◌≡◌, ◌++◌, ℕ, List, length}
use Rattle.byte_ports.specs.Lines.{lines_of}
use Rattle.text_output.specs.Pieces.{GaveAll, sink_seen}
use Rattle.text_output.proofs.output_lines.put_lines.Given as goal

abbrev pub invariant-lines : goal.invariant-lines
invariant-lines g l =
    (done : List (List ℕ)) × (lines_of l.fn.lines ≡ done ++ lines_of l.left)
    × GaveAll (sink_seen (g.K.Sink.written l.fn.sink) (g.K.Sink.faults l.fn.sink) (g.K.Sink.handed l.fn.sink))
    (sink_seen (g.K.Sink.written l.sink) (g.K.Sink.faults l.sink) (g.K.Sink.handed l.sink)) done

abbrev pub decreases-lines : goal.decreases-lines
decreases-lines g l = length l.left
