use Rattle.std.proofs.Common.{List, ℕ, ◌∙◌, subst}
use Rattle.fd_model.specs.declared.Status.TheVariants.{Refused}
use Rattle.byte_ports.specs.Ends.{SinkState, sink_at}
use Rattle.text_output.specs.Endings.{Ending}
use Rattle.text_output.proofs.Lemmas.{no_memory, without_memory}
use Rattle.clpcode.proofs.run.put_refusal.Goals as goal

pub returns-in-Ok : goal.returns-in-Ok
returns-in-Ok g c =
    let old : SinkState = sink_at (g.K.Sink.written c.args.sink.now) (g.K.Sink.faults c.args.sink.now) in
    let new : SinkState = sink_at (g.K.Sink.written c.put_last.new.sink) (g.K.Sink.faults c.put_last.new.sink) in
    subst (λ (lines : List ℕ). Ending old new c.put_last.result Refused lines) (c.deref.ensures.value ∙ c.in-Ok.ensures) (without_memory _ _ _ _ _ c.put_last.ensures.ending)

pub returns-in-Err : goal.returns-in-Err
returns-in-Err g c = no_memory _ Refused _
