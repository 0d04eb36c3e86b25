use Rattle.std.proofs.Common.{◌≡◌, sym, refl, subst}
use Rattle.std.specs.Prelude.{Result, MatchResult}
use Rattle.byte_ports.specs.Ends.{SinkState, sink_at}
use Rattle.answer_check.specs.declared.listed_answers.Listed.{Listed}
use Rattle.answer_check.specs.declared.outcome.CheckStatus.{CheckStatus}
use Rattle.answer_check.specs.declared.outcome.Fault.{Fault}
use Rattle.answer_check.specs.declared.outcome.Stop.{Stop}
use Rattle.answer_check.specs.Faults.{fault_status}
use Rattle.answer_check.specs.Inputs.{Reads}
use Rattle.answer_check.proofs.WholeInputs.{report_checks}
use Rattle.answer_check.proofs.put_checked.Goals as goal

pub returns-in-Ok-put_report : goal.returns-in-Ok-put_report
returns-in-Ok-put_report g c = λ input reads.
    let old : SinkState = sink_at (g.K.Sink.written c.args.sink.now) (g.K.Sink.faults c.args.sink.now) in
    let new : SinkState = sink_at (g.K.Sink.written c.put_report.new.sink) (g.K.Sink.faults c.put_report.new.sink) in
    let h = subst (λ (r : Result Listed Stop). Reads input r) c.in-Ok.is reads in
    let st = c.in-Ok-put_report.status in
    report_checks input old new st c.in-Ok.listed c.put_report.result h (c.put_report.ensures h.flat h.rows h.query h.kept)
    (subst (λ (r : Result CheckStatus Fault). MatchResult r (λ s. st ≡ s) (λ e. st ≡ fault_status e)) (sym c.in-Ok-put_report.is) refl)

pub returns-in-Ok : goal.returns-in-Ok
returns-in-Ok g c = λ input reads.
    let old : SinkState = sink_at (g.K.Sink.written c.args.sink.now) (g.K.Sink.faults c.args.sink.now) in
    let new : SinkState = sink_at (g.K.Sink.written c.put_report.new.sink) (g.K.Sink.faults c.put_report.new.sink) in
    let h = subst (λ (r : Result Listed Stop). Reads input r) c.in-Ok.is reads in
    let st = c.status.result in
    report_checks input old new st c.in-Ok.listed c.put_report.result h (c.put_report.ensures h.flat h.rows h.query h.kept)
    (subst (λ (r : Result CheckStatus Fault). MatchResult r (λ s. st ≡ s) (λ e. st ≡ fault_status e)) (sym c.in-Err.is) c.status.ensures)
