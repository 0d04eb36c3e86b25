use Rattle.std.proofs.Common.{rules, refl, inl, inr}
use Rattle.byte_ports.proofs.Pieces.{put_none, put_rest, put_stop}
use Rattle.byte_ports.proofs.HandedPieces.{one_call, handed_whole, handed_all}
use Rattle.byte_ports.proofs.ports.write_all.Goals as goal

pub loop-done-init : goal.loop-done-init
loop-done-init g c = record {
  in_range = search rules;
  put = put_none (g.K.Sink.written c.args.sink.now);
  handed = inl (refl, refl);
  kept = refl;
  untouched = λ e. refl;
}

pub loop-done-preserved : goal.loop-done-preserved
loop-done-preserved g c =
    record {
      in_range = search rules;
      put = put_rest (g.K.Sink.written c.args.sink.now) (g.K.Sink.written c.loop-done.sink) (g.K.Sink.written c.write.new.self) c.loop-done.done c.in-Ok.n
          c.args.piece.now c.loop-done.invariant.put c.in-Ok.ensures.bytes;
      handed = inr (
        search rules,
        one_call (g.K.Sink.handed c.args.sink.now) (g.K.Sink.handed c.loop-done.sink) (g.K.Sink.handed c.write.new.self)
            c.args.piece.now c.loop-done.done c.loop-done.invariant.handed (search rules) c.in-Ok.ensures.handed,
      );
      kept = search rules;
      untouched = search rules;
    }

pub returns-in-Err-clause-err : goal.returns-in-Err-clause-err
returns-in-Err-clause-err g c =
    put_stop (g.K.Sink.written c.args.sink.now) (g.K.Sink.written c.loop-done.sink) (g.K.Sink.written c.write.new.self) c.loop-done.done c.args.piece.now c.loop-done.invariant.put c.in-Err.ensures.err

pub returns-in-Err-clause-handed : goal.returns-in-Err-clause-handed
returns-in-Err-clause-handed g c =
    handed_whole (g.K.Sink.handed c.args.sink.now) (g.K.Sink.handed c.write.new.self) c.args.piece.now (search rules)
    (one_call (g.K.Sink.handed c.args.sink.now) (g.K.Sink.handed c.loop-done.sink) (g.K.Sink.handed c.write.new.self)
    c.args.piece.now c.loop-done.done c.loop-done.invariant.handed (search rules) c.in-Err.ensures.handed)

pub returns-clause-handed : goal.returns-clause-handed
returns-clause-handed g c =
    handed_all (g.K.Sink.handed c.args.sink.now) (g.K.Sink.handed c.loop-done.sink) c.args.piece.now c.loop-done.done c.loop-done.invariant.handed
    (search rules) c.loop-done.invariant.in_range
