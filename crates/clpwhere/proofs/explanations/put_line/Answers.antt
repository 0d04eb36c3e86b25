use Rattle.std.proofs.Common.{rules}
use Rattle.byte_ports.specs.Ends.{SinkState, sink_at}
use Rattle.clpwhere.specs.MarkedLines.{marked_line}
use Rattle.std.specs.List.{before_first}
use Rattle.byte_ports.specs.Lines.{is_newline}
use Rattle.clpwhere.specs.Refusals.{seen}
use Rattle.clpwhere.proofs.Refusals.{told}
use Rattle.clpwhere.proofs.Pieces.{wrote_short}
use Rattle.clpwhere.proofs.explanations.put_line.Goals as goal

pub returns-in_err-explained-clause-wrote : goal.returns-in_err-explained-clause-wrote
returns-in_err-explained-clause-wrote g c =
    let s : SinkState = sink_at (g.K.Sink.written c.args.sink.now) (g.K.Sink.faults c.args.sink.now) in
    wrote_short s c.from_residual.result (marked_line c.args.text.now c.args.query c.args.line.now) (search rules)

pub returns-in_err-told_fault-clause-wrote : goal.returns-in_err-told_fault-clause-wrote
returns-in_err-told_fault-clause-wrote g c =
    let s : SinkState = sink_at (g.K.Sink.written c.args.sink.now) (g.K.Sink.faults c.args.sink.now) in
    wrote_short s c.from_residual-in_err-told_fault.result (marked_line c.args.text.now c.args.query c.args.line.now) (search rules)

pub explained-requires : goal.explained-requires
explained-requires g c =
    let told = told (before_first is_newline c.args.line.now) (seen c.in-Some.refusal) in
    let tells = told.0 (search rules) in
    tells.within
