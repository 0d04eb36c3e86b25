use Rattle.std.proofs.Common.{inl, inr, sym, subst}
use Rattle.byte_ports.specs.Ends.{SinkState, sink_at}
use Rattle.wam_code.specs.Area.{Area}
use Rattle.text_output.specs.Endings.{Ending, HasLast, RunsProgram}
use Rattle.clpcode.specs.Headline.{limits}
use Rattle.clpcode.proofs.Listings.{runs_loaded, refused_text}
use Rattle.clpcode.proofs.run.load_text.Goals as goal

pub returns-in-Ok : goal.returns-in-Ok
returns-in-Ok g c =
    let code = c.in-Ok.code in
    let old : SinkState = sink_at (g.K.Sink.written c.args.sink.now) (g.K.Sink.faults c.args.sink.now) in
    let new : SinkState = sink_at (g.K.Sink.written c.answer_code.new.sink) (g.K.Sink.faults c.answer_code.new.sink) in
    inr (inr (runs_loaded (Ending old new c.answer_code.result) c.answer_code.result c.args.text.now code c.hold.ensures c.in-Ok.ensures.listing (λ l h e. (c.in-Ok.ensures.known l h e).0)
    (λ prog out stop runs h. c.answer_code.ensures.output prog out stop (subst (λ (a : Area). RunsProgram a prog) (sym c.into_area.ensures) runs) h) c.answer_code.ensures.front
    (λ stop e. subst (λ (a : Area). HasLast a limits stop) c.into_area.ensures (c.answer_code.ensures.last stop e))))

pub returns-in-Err : goal.returns-in-Err
returns-in-Err g c =
    let old : SinkState = sink_at (g.K.Sink.written c.args.sink.now) (g.K.Sink.faults c.args.sink.now) in
    let new : SinkState = sink_at (g.K.Sink.written c.refuse.new.sink) (g.K.Sink.faults c.refuse.new.sink) in
    elim c.refuse.ensures [ inl s ↦ inl s | inr h ↦ inr (inl (refused_text (Ending old new c.refuse.result) c.args.text.now c.in-Err.fault c.in-Err.ensures.fault c.in-Err.ensures.known h)) ]
