use Rattle.std.proofs.Common.{rules, get_or, refl}
use Rattle.std.specs.Prelude.{◌||◌}
use Rattle.byte_ports.specs.Ends.{SinkState, sink_at}
use Rattle.clpwhere.proofs.OpenLines.{fed_stop, gave_step}
use Rattle.clpwhere.proofs.copy.feed.Goals as goal

pub returns-in_err-is_told : goal.returns-in_err-is_told
returns-in_err-is_told g c =
    let s : SinkState = sink_at (g.K.Sink.written c.args.sink.now) (g.K.Sink.faults c.args.sink.now) in
    let m : SinkState = sink_at (g.K.Sink.written c.loop-byte.sink) (g.K.Sink.faults c.loop-byte.sink) in
    let t : SinkState = sink_at (g.K.Sink.written c.feed_byte.new.sink) (g.K.Sink.faults c.feed_byte.new.sink) in
    fed_stop c.args.text.now s m t c.args.line.now.query c.args.line.now.bytes.items c.loop-byte.line.query c.loop-byte.line.bytes.items c.feed_byte.new.line.query
    c.feed_byte.new.line.bytes.items c.args.bytes.now c.loop-byte.byte-index (get_or c.args.bytes.now c.loop-byte.byte-index 0)
    c.loop-byte.is_told c.in_err-is_told.field-0.0 c.from_residual.result c.loop-byte-test.true refl (search rules) c.loop-byte.invariant c.in_err-is_told.ensures

pub loop-byte-preserved : goal.loop-byte-preserved
loop-byte-preserved g c =
    let s : SinkState = sink_at (g.K.Sink.written c.args.sink.now) (g.K.Sink.faults c.args.sink.now) in
    let m : SinkState = sink_at (g.K.Sink.written c.loop-byte.sink) (g.K.Sink.faults c.loop-byte.sink) in
    let t : SinkState = sink_at (g.K.Sink.written c.feed_byte.new.sink) (g.K.Sink.faults c.feed_byte.new.sink) in
    gave_step c.args.text.now s m t c.args.line.now.query c.args.line.now.bytes.items c.loop-byte.line.query c.loop-byte.line.bytes.items c.feed_byte.new.line.query
    c.feed_byte.new.line.bytes.items c.args.bytes.now c.loop-byte.byte-index (get_or c.args.bytes.now c.loop-byte.byte-index 0)
    c.loop-byte.is_told c.in_ok-is_told.field-0 (c.loop-byte.is_told || c.in_ok-is_told.field-0) c.loop-byte-test.true refl refl c.loop-byte.invariant c.in_ok-is_told.ensures
