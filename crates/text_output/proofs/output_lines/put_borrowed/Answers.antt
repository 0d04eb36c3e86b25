use Rattle.std.proofs.Common.{rules, ◌∷◌, map, []}
use Rattle.fd_model.specs.Lines.{event_bytes}
use Rattle.machine_events.specs.Events.{event_of}
use Rattle.term_pool.specs.Contents.{atom_name}
use Rattle.text_output.specs.Pieces.{PieceSink, sink_seen}
use Rattle.text_output.proofs.PieceWrites.{gave_nothing, gave_short}
use Rattle.text_output.proofs.output_lines.put_borrowed.Goals as goal

pub returns-in_err-text-clause-gave : goal.returns-in_err-text-clause-gave
returns-in_err-text-clause-gave g c =
    let here : PieceSink = sink_seen (g.K.Sink.written c.args.sink.now) (g.K.Sink.faults c.args.sink.now) (g.K.Sink.handed c.args.sink.now) in
    gave_short here here c.from_residual.result [] (event_bytes (event_of (map (atom_name c.args.pool.now) c.args.names.now) c.args.event.now) ∷ [])
    (search (c.from_residual.ensures, rules)) (gave_nothing here)
