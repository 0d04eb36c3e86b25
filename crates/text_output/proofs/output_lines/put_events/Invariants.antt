use Rattle.std.proofs.Common.{◌≡◌, ℕ, List}
use Rattle.fd_model.specs.Goal.{Event}
use Rattle.machine_events.specs.declared.MachineEvent.{MachineEvent}
use Rattle.code_machine.specs.States.{StandsFor, left}
use Rattle.text_output.specs.Endings.{Reaches}
use Rattle.text_output.specs.Pieces.{GaveAll, sink_seen}
use Rattle.text_output.proofs.Events.{Remain}
use Rattle.text_output.proofs.output_lines.put_events.Given as goal

abbrev pub invariant-events : goal.invariant-events
invariant-events g l =
    let old = sink_seen (g.K.Sink.written l.fn.sink) (g.K.Sink.faults l.fn.sink) (g.K.Sink.handed l.fn.sink) in
    let now = sink_seen (g.K.Sink.written l.sink) (g.K.Sink.faults l.sink) (g.K.Sink.handed l.sink) in
    record {
      area : l.machine.area ≡ l.fn.machine.area;
      query : l.machine.query ≡ l.fn.machine.query;
      limits : l.machine.limits ≡ l.fn.machine.limits;
      reached : (told : List MachineEvent) × Reaches l.fn.machine told l.machine;
      front : (done : List (List ℕ)) × GaveAll old now done;
      remain : (es : List Event) (r : ℕ) → StandsFor l.fn.machine es r → Remain l.machine old now es r;
    }

abbrev pub decreases-events : goal.decreases-events
decreases-events g l = left l.machine
