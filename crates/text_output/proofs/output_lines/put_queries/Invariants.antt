use Rattle.std.proofs.Common.{ℕ, ◌+◌, Bool, List, drop}
use Rattle.fd_language.specs.declared.TheConstants.{INFINITY}
use Rattle.fd_model.specs.Goal.{Program}
use Rattle.text_output.specs.Endings.{RunsProgram, limits_of}
use Rattle.text_output.specs.Pieces.{GaveAll, QueryPieces, sink_seen}
use Rattle.text_output.proofs.Events.{Behind}
use Rattle.text_output.proofs.LastEvents.{AreSome}
use Rattle.text_output.proofs.output_lines.put_queries.Given as goal

abbrev pub invariant-loop-query : goal.invariant-loop-query
invariant-loop-query g l =
    let old = sink_seen (g.K.Sink.written l.fn.sink) (g.K.Sink.faults l.fn.sink) (g.K.Sink.handed l.fn.sink) in
    let now = sink_seen (g.K.Sink.written l.sink) (g.K.Sink.faults l.sink) (g.K.Sink.handed l.sink) in
    let o = l.fn.options in
    record {
      front : (done : List (List ℕ)) × GaveAll old now done;
      last : AreSome l.fn.code (limits_of o) l.query l.stopped;
      behind : (prog : Program) (pieces : List (List ℕ)) (stop : Bool) → RunsProgram l.fn.code prog → QueryPieces INFINITY o.infinity prog o.steps o.answers 1 prog.queries pieces stop
          → Behind o.infinity o.steps o.answers prog (l.query + 1) (drop l.query prog.queries) old now l.stopped pieces stop;
    }
