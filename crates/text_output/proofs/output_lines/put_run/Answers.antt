use Rattle.std.proofs.Common.{rules, ◌∙◌, sym, ap, subst, ℕ, []}
use Rattle.wam_code.specs.Area.{Area}
use Rattle.wam_code.specs.VerifiedCode.{IsVerified}
use Rattle.code_machine.specs.States.{names_in}
use Rattle.text_output.specs.Endings.{limits_of}
use Rattle.text_output.specs.Pieces.{PieceSink, sink_seen}
use Rattle.text_output.proofs.PieceWrites.{gave_nothing, some_short}
use Rattle.text_output.proofs.ProgramCode.{names_kept}
use Rattle.text_output.proofs.LastEvents.{last_of}
use Rattle.text_output.proofs.output_lines.put_run.Goals as goal

pub returns-in_err-machine-clause-front : goal.returns-in_err-machine-clause-front
returns-in_err-machine-clause-front g c =
    let s : PieceSink = sink_seen (g.K.Sink.written c.args.sink.now) (g.K.Sink.faults c.args.sink.now) (g.K.Sink.handed c.args.sink.now) in
    some_short s s c.from_residual.result (search rules) ([], gave_nothing s)

pub put_events-requires-clause-names : goal.put_events-requires-clause-names
put_events-requires-clause-names g c =
    let parts = c.parts-parts.ensures in
    let area : Area = c.args.code.now.value in
    (names_kept c.parts-parts.result.now area (parts.parts ∙ c.deref.ensures) (subst IsVerified c.deref.ensures parts.verified) c.args.query c.requires.query
    c.index.result.now c.index.ensures c.deref-2.result.now c.deref-2.ensures.value).0

pub put_events-requires-clause-own : goal.put_events-requires-clause-own
put_events-requires-clause-own g c =
    let parts = c.parts-parts.ensures in
    let area : Area = c.args.code.now.value in
    let own = c.in_ok-machine.ensures.own in
    let m = c.in_ok-machine.machine in
    (names_kept c.parts-parts.result.now area (parts.parts ∙ c.deref.ensures) (subst IsVerified c.deref.ensures parts.verified) c.args.query c.requires.query
    c.index.result.now c.index.ensures c.deref-2.result.now c.deref-2.ensures.value).1
    ∙ ap (λ (a : Area). names_in a c.args.query) (sym own.0) ∙ ap (λ (i : ℕ). names_in m.area i) (sym own.1)

pub returns-clause-last : goal.returns-clause-last
returns-clause-last g c =
    last_of c.put_events.result c.args.code.now.value c.args.query (limits_of c.args.options) c.in_ok-machine.machine c.in_ok-machine.ensures c.put_events.ensures.last

pub returns-clause-gave : goal.returns-clause-gave
returns-clause-gave g c = λ es r h. c.put_events.ensures.gave es r (c.in_ok-machine.ensures.stands es r h)

pub returns-clause-stopped : goal.returns-clause-stopped
returns-clause-stopped g c = λ es r h. c.put_events.ensures.stopped es r (c.in_ok-machine.ensures.stands es r h)
