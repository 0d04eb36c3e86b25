use Rattle.std.proofs.Common.{rules, ◌≡◌, ◌<◌, length, arith}
use Rattle.std.proofs.lemmas.Bool.Decides.{nat_tests}
use Rattle.byte_ports.specs.Ends.{SinkState, sink_at}
use Rattle.std.specs.Prelude.{IfOk}
use Rattle.clpwhere.specs.Endings.{Wrote}
use Rattle.clpwhere.specs.MarkedLines.{is_explained, marked_line}
use Rattle.clpwhere.proofs.OpenLines.{wrote_last, told_last}
use Rattle.clpwhere.proofs.copy.finish.Goals as goal

pub returns-clause-wrote : goal.returns-clause-wrote
returns-clause-wrote g c =
    let s : SinkState = sink_at (g.K.Sink.written c.args.sink.now) (g.K.Sink.faults c.args.sink.now) in
    let t : SinkState = sink_at (g.K.Sink.written c.put_line.new.sink) (g.K.Sink.faults c.put_line.new.sink) in
    let some : 0 < length c.args.line.now.bytes.items = grind (arith, nat_tests) in
    let wrote : Wrote s t c.put_line.result (marked_line c.args.text.now c.args.line.now.query c.args.line.now.bytes.items) = search rules in
    wrote_last c.args.text.now s t c.args.line.now.query c.args.line.now.bytes.items c.put_line.result c.requires some wrote

pub returns-clause-told : goal.returns-clause-told
returns-clause-told g c =
    let some : 0 < length c.args.line.now.bytes.items = grind (arith, nat_tests) in
    let told : IfOk c.put_line.result (λ told. told ≡ is_explained c.args.text.now c.args.line.now.query c.args.line.now.bytes.items) = search rules in
    told_last c.args.text.now c.args.line.now.query c.args.line.now.bytes.items c.put_line.result c.requires some told
