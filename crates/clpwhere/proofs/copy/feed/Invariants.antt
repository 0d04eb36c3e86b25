use Rattle.std.proofs.Common.{◌++◌, take}
use Rattle.byte_ports.specs.Ends.{sink_at}
use Rattle.clpwhere.specs.Endings.{GaveAll}
use Rattle.clpwhere.proofs.copy.feed.Given as goal

abbrev pub invariant-loop-byte : goal.invariant-loop-byte
invariant-loop-byte g l =
    GaveAll l.text (sink_at (g.K.Sink.written l.fn.sink) (g.K.Sink.faults l.fn.sink)) (sink_at (g.K.Sink.written l.sink) (g.K.Sink.faults l.sink))
    l.fn.line.query (l.fn.line.bytes.items ++ take l.byte-index l.bytes) l.line.query l.line.bytes.items l.is_told
