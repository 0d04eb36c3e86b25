use Rattle.std.proofs.Common.{List, ℕ, inl, inr, refl, subst}
use Rattle.fd_model.specs.declared.Status.TheVariants.{Done}
use Rattle.byte_ports.specs.Ends.{SinkState, sink_at}
use Rattle.text_output.specs.Endings.{Ending}
use Rattle.text_output.proofs.Lemmas.{without_memory}
use Rattle.clpcode.proofs.run.list_program.Goals as goal

pub returns-in-Ok : goal.returns-in-Ok
returns-in-Ok g c =
    let old : SinkState = sink_at (g.K.Sink.written c.args.sink.now) (g.K.Sink.faults c.args.sink.now) in
    let new : SinkState = sink_at (g.K.Sink.written c.put_last.new.sink) (g.K.Sink.faults c.put_last.new.sink) in
    let l = c.in-Ok.ensures in
    inr (c.in-Ok.text.items, l.0, l.1, l.2, subst (λ (lines : List ℕ). Ending old new c.put_last.result Done lines) c.deref.ensures.value (without_memory _ _ _ _ _ c.put_last.ensures.ending))

pub returns-in-Err : goal.returns-in-Err
returns-in-Err g c = inl (refl, refl)
