use Rattle.std.proofs.Common.{List, ℕ, sym, ap, ◌∙◌, subst}
use Rattle.fd_language.specs.declared.TheConstants.{INFINITY}
use Rattle.fd_model.specs.declared.Status.{Status}
use Rattle.fd_model.specs.declared.Status.TheVariants.{Refused}
use Rattle.fd_model.specs.Output.{VerdictOutput}
use Rattle.text_verdict.specs.declared.judgement.Verdict.{Verdict}
use Rattle.text_verdict.specs.Verdicts.{verdict_of}
use Rattle.byte_ports.specs.Ends.{SinkState, sink_at}
use Rattle.text_output.specs.Endings.{Ending, WroteOutput}
use Rattle.byte_ports.specs.Lines.{lines_of}
use Rattle.text_output.specs.Pieces.{HandedEnding, VerdictPieces}
use Rattle.text_output.proofs.Endings.{without_memory}
use Rattle.text_output.proofs.output_lines.put_output.Goals as goal

pub returns-in-Accepted-clause-output : goal.returns-in-Accepted-clause-output
returns-in-Accepted-clause-output g c = λ out st h.
    let old : SinkState = sink_at (g.K.Sink.written c.args.sink.now) (g.K.Sink.faults c.args.sink.now) in
    let new : SinkState = sink_at (g.K.Sink.written c.answer_program.new.sink) (g.K.Sink.faults c.answer_program.new.sink) in
    let o = c.args.options in
    let k = subst (λ (v : Verdict). VerdictOutput INFINITY o.infinity (verdict_of v) o.steps o.answers out st) c.in-Accepted.is h in
    subst (λ (s : Status). Ending old new c.answer_program.result s out) (sym k.2) (c.answer_program.ensures.output out k.0 k.1)

pub returns-in-Accepted-clause-pieces : goal.returns-in-Accepted-clause-pieces
returns-in-Accepted-clause-pieces g c = λ ps h.
    let o = c.args.options in
    let k = subst (λ (v : Verdict). VerdictPieces INFINITY o.infinity (verdict_of v) o.steps o.answers ps) c.in-Accepted.is h in
    c.answer_program.ensures.pieces ps k.0 k.1

pub returns-in-Ok-clause-output : goal.returns-in-Ok-clause-output
returns-in-Ok-clause-output g c = λ out st h.
    let old : SinkState = sink_at (g.K.Sink.written c.args.sink.now) (g.K.Sink.faults c.args.sink.now) in
    let new : SinkState = sink_at (g.K.Sink.written c.put_last.new.sink) (g.K.Sink.faults c.put_last.new.sink) in
    let o = c.args.options in
    let k = subst (λ (v : Verdict). VerdictOutput INFINITY o.infinity (verdict_of v) o.steps o.answers out st) c.in-Refused.is h in
    without_memory old new c.put_last.result st out
    (subst (λ (s : Status). WroteOutput old new c.put_last.result s out) (sym k.1)
    (subst (λ (l : List ℕ). WroteOutput old new c.put_last.result Refused l) (c.deref.ensures.value ∙ c.in-Ok.ensures ∙ sym k.0) c.put_last.ensures.ending))

pub returns-in-Ok-clause-pieces : goal.returns-in-Ok-clause-pieces
returns-in-Ok-clause-pieces g c = λ ps h.
    let o = c.args.options in
    let k = subst (λ (v : Verdict). VerdictPieces INFINITY o.infinity (verdict_of v) o.steps o.answers ps) c.in-Refused.is h in
    subst (HandedEnding (g.K.Sink.handed c.args.sink.now) (g.K.Sink.handed c.put_last.new.sink) c.put_last.result)
    (ap lines_of (c.deref.ensures.value ∙ c.in-Ok.ensures) ∙ sym k) c.put_last.ensures.pieces
