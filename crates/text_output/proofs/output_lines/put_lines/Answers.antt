use Rattle.std.proofs.Common.{rules, ◌≡◌, ◌<◌, refl, [], List, ℕ, length}
use Rattle.std.proofs.lemmas.List.{take_rest}
use Rattle.text_output.specs.Pieces.{PieceSink, sink_seen}
use Rattle.text_output.proofs.PieceWrites.{gave_nothing}
use Rattle.text_output.proofs.Lines.{line_more, line_short, lines_all}
use Rattle.text_output.proofs.output_lines.put_lines.Goals as goal

pub lines-init : goal.lines-init
lines-init g c = ([], refl, gave_nothing _)

pub lines-preserved : goal.lines-preserved
lines-preserved g c =
    let k = c.lines.invariant in
    let old : PieceSink = sink_seen (g.K.Sink.written c.args.sink.now) (g.K.Sink.faults c.args.sink.now) (g.K.Sink.handed c.args.sink.now) in
    let now : PieceSink = sink_seen (g.K.Sink.written c.lines.sink) (g.K.Sink.faults c.lines.sink) (g.K.Sink.handed c.lines.sink) in
    let new : PieceSink = sink_seen (g.K.Sink.written c.put_line.new.sink) (g.K.Sink.faults c.put_line.new.sink) (g.K.Sink.handed c.put_line.new.sink) in
    let left : List ℕ = c.lines.left.now in
    let line : List ℕ = c.first_line-line.result.now in
    let some : 0 < length left = search rules in
    rw (take_rest left (length line)) (line_more c.args.lines.now left line k.0 some c.first_line-line.ensures.line k.1 old now new k.2 c.in_ok-put_line.ensures.gave)

pub returns-in_err-put_line-clause-gave : goal.returns-in_err-put_line-clause-gave
returns-in_err-put_line-clause-gave g c =
    let k = c.lines.invariant in
    let old : PieceSink = sink_seen (g.K.Sink.written c.args.sink.now) (g.K.Sink.faults c.args.sink.now) (g.K.Sink.handed c.args.sink.now) in
    let now : PieceSink = sink_seen (g.K.Sink.written c.lines.sink) (g.K.Sink.faults c.lines.sink) (g.K.Sink.handed c.lines.sink) in
    let new : PieceSink = sink_seen (g.K.Sink.written c.put_line.new.sink) (g.K.Sink.faults c.put_line.new.sink) (g.K.Sink.handed c.put_line.new.sink) in
    let left : List ℕ = c.lines.left.now in
    let some : 0 < length left = search rules in
    line_short c.args.lines.now left c.first_line-line.result.now k.0 some c.first_line-line.ensures.line k.1 old now new k.2
    c.from_residual.result c.in_err-put_line.field-0.0 (search rules) c.in_err-put_line.ensures.gave

pub returns-clause-gave : goal.returns-clause-gave
returns-clause-gave g c =
    let k = c.lines.invariant in
    let old : PieceSink = sink_seen (g.K.Sink.written c.args.sink.now) (g.K.Sink.faults c.args.sink.now) (g.K.Sink.handed c.args.sink.now) in
    let now : PieceSink = sink_seen (g.K.Sink.written c.lines.sink) (g.K.Sink.faults c.lines.sink) (g.K.Sink.handed c.lines.sink) in
    let none : length c.lines.left.now ≡ 0 = search rules in
    lines_all c.args.lines.now c.lines.left.now k.0 old now none k.1 k.2
