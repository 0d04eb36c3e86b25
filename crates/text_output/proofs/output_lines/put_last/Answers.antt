use Rattle.std.proofs.Common.{inl, inr, refl, sym, ap, ◌∙◌, subst}
use Rattle.fd_model.specs.declared.Status.{Status}
use Rattle.byte_ports.specs.Ends.{SinkState, sink_at, WroteAll}
use Rattle.text_output.specs.declared.fault.Fault.{Fault}
use Rattle.text_output.specs.Endings.{CutBy, fault_status}
use Rattle.byte_ports.specs.Lines.{lines_of}
use Rattle.text_output.specs.Pieces.{HandedEnding}
use Rattle.text_output.proofs.Endings.{all_ending, front_ending}
use Rattle.byte_ports.proofs.Lemmas.{joined_lines}
use Rattle.text_output.proofs.output_lines.put_last.Goals as goal

pub returns-in-Ok-clause-ending : goal.returns-in-Ok-clause-ending
returns-in-Ok-clause-ending g c =
    let old : SinkState = sink_at (g.K.Sink.written c.args.sink.now) (g.K.Sink.faults c.args.sink.now) in
    let new : SinkState = sink_at (g.K.Sink.written c.put_lines.new.sink) (g.K.Sink.faults c.put_lines.new.sink) in
    inl (refl, subst (WroteAll old new) (joined_lines c.args.lines.now) c.in-Ok.ensures.gave.wrote)

pub returns-in-Ok-clause-pieces : goal.returns-in-Ok-clause-pieces
returns-in-Ok-clause-pieces g c = all_ending (g.K.Sink.handed c.args.sink.now) (g.K.Sink.handed c.put_lines.new.sink) c.args.status (lines_of c.args.lines.now) c.in-Ok.ensures.gave.handed

pub returns-in-Err-clause-ending : goal.returns-in-Err-clause-ending
returns-in-Err-clause-ending g c =
    let old : SinkState = sink_at (g.K.Sink.written c.args.sink.now) (g.K.Sink.faults c.args.sink.now) in
    let new : SinkState = sink_at (g.K.Sink.written c.put_lines.new.sink) (g.K.Sink.faults c.put_lines.new.sink) in
    inr (
      c.status.ensures ∙ ap fault_status c.in-Err.ensures.fault,
      subst (λ (f : Fault). CutBy old new f c.args.lines.now) c.in-Err.ensures.fault
          (subst (CutBy old new c.in-Err.fault) (joined_lines c.args.lines.now) c.in-Err.ensures.gave.wrote),
    )

pub returns-in-Err-clause-pieces : goal.returns-in-Err-clause-pieces
returns-in-Err-clause-pieces g c =
    let old = g.K.Sink.handed c.args.sink.now in
    let new = g.K.Sink.handed c.put_lines.new.sink in
    let ls = lines_of c.args.lines.now in
    subst (λ (s : Status). HandedEnding old new s ls) (sym c.status.ensures) (front_ending old new c.in-Err.fault ls c.in-Err.ensures.gave.handed)
