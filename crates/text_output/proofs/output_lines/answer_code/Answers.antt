use Rattle.std.proofs.Common.{◌≡◌, inl, ap, sym, subst, true, false}
use Rattle.std.specs.List.{concat}
use Rattle.fd_language.specs.declared.TheConstants.{INFINITY}
use Rattle.fd_model.specs.declared.Status.{Status}
use Rattle.fd_model.specs.Output.{stop_status}
use Rattle.byte_ports.specs.Ends.{SinkState, WroteAll, sink_at}
use Rattle.text_output.specs.Endings.{CutBy, Ending}
use Rattle.text_output.specs.Pieces.{HandedEnding}
use Rattle.text_output.proofs.Endings.{cut_ending, front_ending}
use Rattle.text_output.proofs.Events.{query_pieces}
use Rattle.text_output.proofs.output_lines.answer_code.Goals as goal

pub returns-in-Ok-true-clause-output : goal.returns-in-Ok-true-clause-output
returns-in-Ok-true-clause-output g c = λ prog out stop runs h.
    let old : SinkState = sink_at (g.K.Sink.written c.args.sink.now) (g.K.Sink.faults c.args.sink.now) in
    let new : SinkState = sink_at (g.K.Sink.written c.put_queries.new.sink) (g.K.Sink.faults c.put_queries.new.sink) in
    let o = c.args.options in
    let p = query_pieces INFINITY o.infinity prog o.steps o.answers 1 prog.queries out stop h in
    let told = c.in-Ok-true.ensures.stopped prog p.0 stop runs p.1 in
    let is = c.in-Ok-true.field-0-test in
    let stopped : true ≡ stop = cc (told, is) in
    inl (ap stop_status stopped, subst (WroteAll old new) p.2 (c.in-Ok-true.ensures.gave prog p.0 stop runs p.1).wrote)

pub returns-in-Ok-false-clause-output : goal.returns-in-Ok-false-clause-output
returns-in-Ok-false-clause-output g c = λ prog out stop runs h.
    let old : SinkState = sink_at (g.K.Sink.written c.args.sink.now) (g.K.Sink.faults c.args.sink.now) in
    let new : SinkState = sink_at (g.K.Sink.written c.put_queries.new.sink) (g.K.Sink.faults c.put_queries.new.sink) in
    let o = c.args.options in
    let p = query_pieces INFINITY o.infinity prog o.steps o.answers 1 prog.queries out stop h in
    let told = c.in-Ok-false.ensures.stopped prog p.0 stop runs p.1 in
    let is = c.in-Ok-false.field-0-test in
    let stopped : false ≡ stop = cc (told, is) in
    inl (ap stop_status stopped, subst (WroteAll old new) p.2 (c.in-Ok-false.ensures.gave prog p.0 stop runs p.1).wrote)

pub returns-in-Err-clause-output : goal.returns-in-Err-clause-output
returns-in-Err-clause-output g c = λ prog out stop runs h.
    let old : SinkState = sink_at (g.K.Sink.written c.args.sink.now) (g.K.Sink.faults c.args.sink.now) in
    let new : SinkState = sink_at (g.K.Sink.written c.put_queries.new.sink) (g.K.Sink.faults c.put_queries.new.sink) in
    let o = c.args.options in
    let p = query_pieces INFINITY o.infinity prog o.steps o.answers 1 prog.queries out stop h in
    subst (λ (s : Status). Ending old new s (stop_status stop) out) (sym c.status.ensures)
    (cut_ending old new c.in-Err.fault (stop_status stop) out (subst (CutBy old new c.in-Err.fault) p.2 (c.in-Err.ensures.gave prog p.0 stop runs p.1).wrote))

pub returns-in-Err-clause-front : goal.returns-in-Err-clause-front
returns-in-Err-clause-front g c =
    let old : SinkState = sink_at (g.K.Sink.written c.args.sink.now) (g.K.Sink.faults c.args.sink.now) in
    let new : SinkState = sink_at (g.K.Sink.written c.put_queries.new.sink) (g.K.Sink.faults c.put_queries.new.sink) in
    let front = c.in-Err.ensures.front in
    let out = concat front.0 in
    (out, true, subst (λ (s : Status). Ending old new s (stop_status true) out) (sym c.status.ensures) (cut_ending old new c.in-Err.fault (stop_status true) out front.1.wrote))

pub returns-in-Err-clause-pieces : goal.returns-in-Err-clause-pieces
returns-in-Err-clause-pieces g c = λ prog ps stop runs h.
    let old = g.K.Sink.handed c.args.sink.now in
    let new = g.K.Sink.handed c.put_queries.new.sink in
    subst (λ (s : Status). HandedEnding old new s ps) (sym c.status.ensures) (front_ending old new c.in-Err.fault ps (c.in-Err.ensures.gave prog ps stop runs h).handed)
