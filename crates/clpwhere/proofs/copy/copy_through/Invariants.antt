use Rattle.byte_ports.specs.Ends.{Ends}
use Rattle.clpwhere.proofs.Runs.{HasCopied}
use Rattle.clpwhere.proofs.copy.copy_through.Given as goal

abbrev pub invariant-reading : goal.invariant-reading
invariant-reading g l =
    let old : Ends = record { left = g.S.Source.left l.fn.source; written = g.K.Sink.written l.fn.sink; source_faults = g.S.Source.faults l.fn.source; sink_faults = g.K.Sink.faults l.fn.sink } in
    let now : Ends = record { left = g.S.Source.left l.source; written = g.K.Sink.written l.sink; source_faults = g.S.Source.faults l.source; sink_faults = g.K.Sink.faults l.sink } in
    HasCopied l.text old now l.line.query l.line.bytes.items l.is_told
