use Rattle.std.proofs.Common.{rules, ◌≡◌, ◌∙◌, ℕ, List, Err, sym, subst}
use Rattle.byte_ports.specs.Ends.{SinkState, WroteFront, sink_at}
use Rattle.answer_check.specs.declared.outcome.Fault.TheVariants as fault
use Rattle.answer_check.specs.Rows.{Keeps}
use Rattle.answer_check.proofs.Streams.{report_cut, report_failed, report_short}
use Rattle.answer_check.proofs.report.put_report.Goals as goal

pub returns-in_err-text : goal.returns-in_err-text
returns-in_err-text g c = λ f nss i k.
    let old : SinkState = sink_at (g.K.Sink.written c.args.sink.now) (g.K.Sink.faults c.args.sink.now) in
    let now : SinkState = sink_at (g.K.Sink.written c.put_lines.new.sink) (g.K.Sink.faults c.put_lines.new.sink) in
    let e : c.from_residual.result ≡ Err c.in_err-text.field-0.0 = search rules in
    report_cut f nss old now c.in_err-text.field-0.0 c.from_residual.result (c.in_err-text.ensures f nss i k) e

pub returns-in_err-is_in_order : goal.returns-in_err-is_in_order
returns-in_err-is_in_order g c = λ f nss i k.
    let old : SinkState = sink_at (g.K.Sink.written c.args.sink.now) (g.K.Sink.faults c.args.sink.now) in
    let now : SinkState = sink_at (g.K.Sink.written c.put_lines.new.sink) (g.K.Sink.faults c.put_lines.new.sink) in
    let e : c.from_residual-in_err-is_in_order.result ≡ Err fault.NoMemory = search rules in
    report_short f nss old now c.in_ok-text.field-0 (c.in_ok-text.ensures f nss i k) c.from_residual-in_err-is_in_order.result e

pub returns-in_err-write_all : goal.returns-in_err-write_all
returns-in_err-write_all g c = λ f nss i k.
    let old : SinkState = sink_at (g.K.Sink.written c.args.sink.now) (g.K.Sink.faults c.args.sink.now) in
    let now : SinkState = sink_at (g.K.Sink.written c.put_lines.new.sink) (g.K.Sink.faults c.put_lines.new.sink) in
    let new : SinkState = sink_at (g.K.Sink.written c.write_all.new.sink) (g.K.Sink.faults c.write_all.new.sink) in
    let e : c.from_residual-in_err-write_all.result ≡ Err fault.WriteFault = search rules in
    let a = c.args.answers.now in
    let put = c.in_ok-is_in_order.ensures nss (subst (λ (m : ℕ). Keeps m nss a) (sym k.0) k) in
    let front : WroteFront now new c.deref-2.result.now = record { put = c.in_err-write_all.ensures.err; rose = c.in_err-write_all.ensures.cause; later = c.in_err-write_all.ensures.later } in
    report_failed f nss old now c.in_ok-text.field-0 (c.in_ok-text.ensures f nss i k) c.args.query.now.goals.order c.deref.result.now i.goals.order
    (c.deref.ensures.value ∙ i.goals.labelled) c.put_order.new.text.items
    c.in_ok-is_in_order.is_in_order put new c.from_residual-in_err-write_all.result (subst (λ (t : List ℕ). WroteFront now new t) c.deref-2.ensures.value front) e
