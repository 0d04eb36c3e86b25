use Rattle.std.proofs.Common.{ℕ, List}
use Rattle.byte_ports.specs.Ends.{sink_at}
use Rattle.answer_check.specs.FlatForm.{FlatQuery as Flat}
use Rattle.answer_check.specs.Queries.{IsQuery}
use Rattle.answer_check.specs.Rows.{Keeps}
use Rattle.answer_check.proofs.Streams.{IsStreamed}
use Rattle.answer_check.proofs.report.put_lines.Given as goal

abbrev pub invariant-loop-number : goal.invariant-loop-number
invariant-loop-number g l = (f : Flat) (nss : List (List ℕ)) → IsQuery f l.fn.query → Keeps f.query.variables nss l.answers
    → IsStreamed f.constraints nss (sink_at (g.K.Sink.written l.fn.sink) (g.K.Sink.faults l.fn.sink)) (sink_at (g.K.Sink.written l.sink) (g.K.Sink.faults l.sink)) l.number l.text.items l.are_good
