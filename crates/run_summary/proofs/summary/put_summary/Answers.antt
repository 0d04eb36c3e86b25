use Rattle.std.proofs.Common.{ℕ, List, ◌∙◌, subst}
use Rattle.fd_model.specs.declared.Status.{Status}
use Rattle.byte_ports.specs.Ends.{sink_at}
use Rattle.text_output.specs.Endings.{Ending}
use Rattle.byte_ports.specs.Lines.{lines_of}
use Rattle.text_output.specs.Pieces.{HandedEnding}
use Rattle.text_output.proofs.Lemmas.{no_pieces, without_memory}
use Rattle.run_summary.proofs.summary.put_summary.Goals as goal

pub returns-in-Ok-clause-output : goal.returns-in-Ok-clause-output
returns-in-Ok-clause-output g c = λ out st s.
    let old = sink_at (g.K.Sink.written c.args.sink.now) (g.K.Sink.faults c.args.sink.now) in
    let new = sink_at (g.K.Sink.written c.put_last.new.sink) (g.K.Sink.faults c.put_last.new.sink) in
    let h = c.in-Ok.ensures out st s in
    subst (Ending old new c.put_last.result st) (c.deref.ensures.value ∙ h.0)
    (subst (λ (t : Status). Ending old new c.put_last.result t c.deref.result.now) h.1 (without_memory _ _ _ _ _ c.put_last.ensures.ending))

pub returns-in-Ok-clause-pieces : goal.returns-in-Ok-clause-pieces
returns-in-Ok-clause-pieces g c = λ out st s.
    let old = g.K.Sink.handed c.args.sink.now in
    let new = g.K.Sink.handed c.put_last.new.sink in
    let h = c.in-Ok.ensures out st s in
    subst (λ (text : List ℕ). HandedEnding old new c.put_last.result (lines_of text)) (c.deref.ensures.value ∙ h.0) c.put_last.ensures.pieces

pub returns-in-Err-clause-pieces : goal.returns-in-Err-clause-pieces
returns-in-Err-clause-pieces g c = λ out st s. no_pieces _ (lines_of out)
