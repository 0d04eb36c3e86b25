use Rattle.std.proofs.Common.{rules, ◌≡◌, ◌<◌, [], length, take, refl, ap}
use Rattle.byte_ports.specs.Ends.{Ends}
use Rattle.clpwhere.proofs.Runs.{copied, copy_cut, last_cut, memory_cut, more_cut, more_read, read_cut}
use Rattle.clpwhere.proofs.copy.copy_through.Goals as goal

pub returns-in_err-finish-in-Ok-eq0 : goal.returns-in_err-finish-in-Ok-eq0
returns-in_err-finish-in-Ok-eq0 g c =
    let old : Ends = record {
      left = g.S.Source.left c.args.source.now;
      written = g.K.Sink.written c.args.sink.now;
      source_faults = g.S.Source.faults c.args.source.now;
      sink_faults = g.K.Sink.faults c.args.sink.now;
    } in
    let now : Ends = record {
      left = g.S.Source.left c.reading.source;
      written = g.K.Sink.written c.reading.sink;
      source_faults = g.S.Source.faults c.reading.source;
      sink_faults = g.K.Sink.faults c.reading.sink;
    } in
    let new : Ends = record {
      left = g.S.Source.left c.read.new.self;
      written = g.K.Sink.written c.finish.new.sink;
      source_faults = g.S.Source.faults c.read.new.self;
      sink_faults = g.K.Sink.faults c.finish.new.sink;
    } in
    let zero : c.in-Ok-eq0.field-0 ≡ 0 = search rules in
    let none : take c.in-Ok-eq0.field-0 c.read.new.buf ≡ [] = ap (λ k. take k c.read.new.buf) zero in
    let some : 0 < length c.read.new.buf = search rules in
    let cut = last_cut c.args.text.now old now new c.reading.line.query c.reading.line.bytes.items (take c.in-Ok-eq0.field-0 c.read.new.buf) c.reading.is_told c.in_err-finish-in-Ok-eq0.field-0.0 c.reading.invariant
    c.in-Ok-eq0.ensures.bytes none (c.in-Ok-eq0.ensures.end zero some) c.in-Ok-eq0.ensures.ok c.in_err-finish-in-Ok-eq0.ensures.wrote in
    copy_cut c.args.text.now old new c.in_err-finish-in-Ok-eq0.field-0.0 c.from_residual.result (search rules) cut

pub returns-in-Ok-eq0 : goal.returns-in-Ok-eq0
returns-in-Ok-eq0 g c =
    let old : Ends = record {
      left = g.S.Source.left c.args.source.now;
      written = g.K.Sink.written c.args.sink.now;
      source_faults = g.S.Source.faults c.args.source.now;
      sink_faults = g.K.Sink.faults c.args.sink.now;
    } in
    let now : Ends = record {
      left = g.S.Source.left c.reading.source;
      written = g.K.Sink.written c.reading.sink;
      source_faults = g.S.Source.faults c.reading.source;
      sink_faults = g.K.Sink.faults c.reading.sink;
    } in
    let new : Ends = record {
      left = g.S.Source.left c.read.new.self;
      written = g.K.Sink.written c.finish.new.sink;
      source_faults = g.S.Source.faults c.read.new.self;
      sink_faults = g.K.Sink.faults c.finish.new.sink;
    } in
    let zero : c.in-Ok-eq0.field-0 ≡ 0 = search rules in
    let none : take c.in-Ok-eq0.field-0 c.read.new.buf ≡ [] = ap (λ k. take k c.read.new.buf) zero in
    let some : 0 < length c.read.new.buf = search rules in
    copied c.args.text.now old now new c.reading.line.query c.reading.line.bytes.items (take c.in-Ok-eq0.field-0 c.read.new.buf) c.reading.is_told c.in_ok-finish-in-Ok-eq0.field-0 c.reading.invariant
    c.in-Ok-eq0.ensures.bytes none (c.in-Ok-eq0.ensures.end zero some) c.in-Ok-eq0.ensures.ok c.in_ok-finish-in-Ok-eq0.ensures.wrote c.in_ok-finish-in-Ok-eq0.ensures.told

pub returns-in_err-is_told-in-Ok : goal.returns-in_err-is_told-in-Ok
returns-in_err-is_told-in-Ok g c =
    let old : Ends = record {
      left = g.S.Source.left c.args.source.now;
      written = g.K.Sink.written c.args.sink.now;
      source_faults = g.S.Source.faults c.args.source.now;
      sink_faults = g.K.Sink.faults c.args.sink.now;
    } in
    let now : Ends = record {
      left = g.S.Source.left c.reading.source;
      written = g.K.Sink.written c.reading.sink;
      source_faults = g.S.Source.faults c.reading.source;
      sink_faults = g.K.Sink.faults c.reading.sink;
    } in
    let new : Ends = record {
      left = g.S.Source.left c.read.new.self;
      written = g.K.Sink.written c.feed.new.sink;
      source_faults = g.S.Source.faults c.read.new.self;
      sink_faults = g.K.Sink.faults c.feed.new.sink;
    } in
    let cut = more_cut c.args.text.now old now new c.reading.line.query c.reading.line.bytes.items (take c.in-Ok.count c.read.new.buf) c.reading.is_told c.in_err-is_told-in-Ok.field-0.0 c.reading.invariant
    c.in-Ok.ensures.bytes c.in-Ok.ensures.ok c.in_err-is_told-in-Ok.ensures in
    copy_cut c.args.text.now old new c.in_err-is_told-in-Ok.field-0.0 c.from_residual-in_err-is_told-in-Ok.result (search rules) cut

pub returns-in-Err : goal.returns-in-Err
returns-in-Err g c =
    let old : Ends = record {
      left = g.S.Source.left c.args.source.now;
      written = g.K.Sink.written c.args.sink.now;
      source_faults = g.S.Source.faults c.args.source.now;
      sink_faults = g.K.Sink.faults c.args.sink.now;
    } in
    let now : Ends = record {
      left = g.S.Source.left c.reading.source;
      written = g.K.Sink.written c.reading.sink;
      source_faults = g.S.Source.faults c.reading.source;
      sink_faults = g.K.Sink.faults c.reading.sink;
    } in
    let new : Ends = record {
      left = g.S.Source.left c.read.new.self;
      written = g.K.Sink.written c.reading.sink;
      source_faults = g.S.Source.faults c.read.new.self;
      sink_faults = g.K.Sink.faults c.reading.sink;
    } in
    read_cut c.args.text.now old now new c.reading.line.query c.reading.line.bytes.items c.reading.is_told c.reading.invariant c.in-Err.ensures.err c.in-Err.ensures.later c.in-Err.ensures.cause refl refl

pub reading-preserved : goal.reading-preserved
reading-preserved g c =
    let old : Ends = record {
      left = g.S.Source.left c.args.source.now;
      written = g.K.Sink.written c.args.sink.now;
      source_faults = g.S.Source.faults c.args.source.now;
      sink_faults = g.K.Sink.faults c.args.sink.now;
    } in
    let now : Ends = record {
      left = g.S.Source.left c.reading.source;
      written = g.K.Sink.written c.reading.sink;
      source_faults = g.S.Source.faults c.reading.source;
      sink_faults = g.K.Sink.faults c.reading.sink;
    } in
    let new : Ends = record {
      left = g.S.Source.left c.read.new.self;
      written = g.K.Sink.written c.feed.new.sink;
      source_faults = g.S.Source.faults c.read.new.self;
      sink_faults = g.K.Sink.faults c.feed.new.sink;
    } in
    more_read c.args.text.now old now new c.reading.line.query c.reading.line.bytes.items c.feed.new.line.query c.feed.new.line.bytes.items (take c.in-Ok.count c.read.new.buf) c.reading.is_told c.in_ok-is_told-in-Ok.field-0 c.reading.invariant
    c.in-Ok.ensures.bytes c.in-Ok.ensures.ok c.in_ok-is_told-in-Ok.ensures

pub returns : goal.returns
returns g c =
    let old : Ends = record {
      left = g.S.Source.left c.args.source.now;
      written = g.K.Sink.written c.args.sink.now;
      source_faults = g.S.Source.faults c.args.source.now;
      sink_faults = g.K.Sink.faults c.args.sink.now;
    } in
    let now : Ends = record {
      left = g.S.Source.left c.reading.source;
      written = g.K.Sink.written c.reading.sink;
      source_faults = g.S.Source.faults c.reading.source;
      sink_faults = g.K.Sink.faults c.reading.sink;
    } in
    memory_cut c.args.text.now old now c.reading.line.query c.reading.line.bytes.items c.reading.is_told c.reading.invariant
