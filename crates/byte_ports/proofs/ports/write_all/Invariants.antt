use Rattle.std.proofs.Common.{length, ◌-◌, ◌≤◌, ◌≡◌, take}
use Rattle.byte_ports.specs.Ports.{Put}
use Rattle.byte_ports.proofs.HandedPieces.{HandedTo}
use Rattle.byte_ports.proofs.ports.write_all.Given as goal

abbrev pub invariant-loop-done : goal.invariant-loop-done
invariant-loop-done g l = record {
  in_range : l.done ≤ length l.piece;
  put : Put (g.K.Sink.written l.fn.sink) (g.K.Sink.written l.sink) (take l.done l.piece);
  handed : HandedTo (g.K.Sink.handed l.fn.sink) (g.K.Sink.handed l.sink) l.piece l.done;
  kept : g.K.Sink.faults l.sink ≡ g.K.Sink.faults l.fn.sink;
  untouched : length l.piece ≡ 0 → l.sink ≡ l.fn.sink;
}

abbrev pub decreases-loop-done : goal.decreases-loop-done
decreases-loop-done g l = length l.piece - l.done
