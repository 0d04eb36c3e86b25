use Rattle.std.proofs.Common.{rules, ◌≡◌, ◌∷◌, ◌++◌, []}
use Rattle.byte_ports.specs.Ends.{SinkState, sink_at}
use Rattle.clpwhere.specs.QueriedLines.{query_after}
use Rattle.clpwhere.proofs.OpenLines.{fed_short, fed_ended, gave_open, gave_ended}
use Rattle.clpwhere.proofs.copy.feed_byte.Goals as goal

pub returns-in_err-push : goal.returns-in_err-push
returns-in_err-push g c =
    let s : SinkState = sink_at (g.K.Sink.written c.args.sink.now) (g.K.Sink.faults c.args.sink.now) in
    fed_short c.args.text.now s c.args.line.now.query (c.args.line.now.bytes.items ++ c.args.byte ∷ []) c.args.line.now.query c.push.new.self.items c.from_residual.result (search rules)

pub returns-then-byte-ne10 : goal.returns-then-byte-ne10
returns-then-byte-ne10 g c =
    let s : SinkState = sink_at (g.K.Sink.written c.args.sink.now) (g.K.Sink.faults c.args.sink.now) in
    let pushed : c.push.new.self.items ≡ c.args.line.now.bytes.items ++ c.args.byte ∷ [] = search rules in
    gave_open c.args.text.now s c.args.line.now.query c.args.line.now.bytes.items c.push.new.self.items c.args.byte c.requires c.if-byte-ne10.true pushed

pub returns-in_err-is_told : goal.returns-in_err-is_told
returns-in_err-is_told g c =
    let s : SinkState = sink_at (g.K.Sink.written c.args.sink.now) (g.K.Sink.faults c.args.sink.now) in
    let t : SinkState = sink_at (g.K.Sink.written c.put_line.new.sink) (g.K.Sink.faults c.put_line.new.sink) in
    let pushed : c.deref.result.now ≡ c.args.line.now.bytes.items ++ c.args.byte ∷ [] = search rules in
    fed_ended c.args.text.now s t c.args.line.now.query c.args.line.now.bytes.items c.deref.result.now c.args.line.now.query c.push.new.self.items c.args.byte c.in_err-is_told.field-0.0 c.from_residual-in_err-is_told.result
    c.if-byte-ne10.false pushed c.requires (search rules) c.in_err-is_told.ensures.wrote

pub returns : goal.returns
returns g c =
    let s : SinkState = sink_at (g.K.Sink.written c.args.sink.now) (g.K.Sink.faults c.args.sink.now) in
    let t : SinkState = sink_at (g.K.Sink.written c.put_line.new.sink) (g.K.Sink.faults c.put_line.new.sink) in
    let pushed : c.deref.result.now ≡ c.args.line.now.bytes.items ++ c.args.byte ∷ [] = search rules in
    let after : c.query_after-line.result ≡ query_after c.args.line.now.query c.deref.result.now = search rules in
    gave_ended c.args.text.now s t c.args.line.now.query c.args.line.now.bytes.items c.deref.result.now c.query_after-line.result c.clear.new.self.items c.args.byte c.in_ok-is_told.is_told
    c.if-byte-ne10.false pushed c.clear.ensures.items after c.requires c.in_ok-is_told.ensures.told c.in_ok-is_told.ensures.wrote
