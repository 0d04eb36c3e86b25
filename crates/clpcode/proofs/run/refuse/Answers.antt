use Rattle.std.proofs.Common.{inl, inr, refl, sym, subst}
use Rattle.byte_ports.specs.Ends.{SinkState, sink_at}
use Rattle.text_output.specs.Endings.{Ending}
use Rattle.clpcode.specs.Headline.{RefusesFault}
use Rattle.clpcode.proofs.run.refuse.Goals as goal

pub returns-in-BadLine : goal.returns-in-BadLine
returns-in-BadLine g c =
    let old : SinkState = sink_at (g.K.Sink.written c.args.sink.now) (g.K.Sink.faults c.args.sink.now) in
    let new : SinkState = sink_at (g.K.Sink.written c.put_refusal.new.sink) (g.K.Sink.faults c.put_refusal.new.sink) in
    inr (subst (RefusesFault (Ending old new c.put_refusal.result)) (sym c.in-BadLine.is) c.put_refusal.ensures)

pub returns-in-BadNumber : goal.returns-in-BadNumber
returns-in-BadNumber g c =
    let old : SinkState = sink_at (g.K.Sink.written c.args.sink.now) (g.K.Sink.faults c.args.sink.now) in
    let new : SinkState = sink_at (g.K.Sink.written c.put_refusal-in-BadNumber.new.sink) (g.K.Sink.faults c.put_refusal-in-BadNumber.new.sink) in
    inr (subst (RefusesFault (Ending old new c.put_refusal-in-BadNumber.result)) (sym c.in-BadNumber.is) c.put_refusal-in-BadNumber.ensures)

pub returns-in-BadRange : goal.returns-in-BadRange
returns-in-BadRange g c =
    let old : SinkState = sink_at (g.K.Sink.written c.args.sink.now) (g.K.Sink.faults c.args.sink.now) in
    let new : SinkState = sink_at (g.K.Sink.written c.put_refusal-in-BadRange.new.sink) (g.K.Sink.faults c.put_refusal-in-BadRange.new.sink) in
    inr (subst (RefusesFault (Ending old new c.put_refusal-in-BadRange.result)) (sym c.in-BadRange.is) c.put_refusal-in-BadRange.ensures)

pub returns-in-NotVerified : goal.returns-in-NotVerified
returns-in-NotVerified g c =
    let old : SinkState = sink_at (g.K.Sink.written c.args.sink.now) (g.K.Sink.faults c.args.sink.now) in
    let new : SinkState = sink_at (g.K.Sink.written c.put_refusal-in-NotVerified.new.sink) (g.K.Sink.faults c.put_refusal-in-NotVerified.new.sink) in
    inr (subst (RefusesFault (Ending old new c.put_refusal-in-NotVerified.result)) (sym c.in-NotVerified.is) c.put_refusal-in-NotVerified.ensures)

pub returns-in-NoMemory : goal.returns-in-NoMemory
returns-in-NoMemory g c = inl (refl, refl)
