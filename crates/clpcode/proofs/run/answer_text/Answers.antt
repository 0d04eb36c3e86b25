use Rattle.std.proofs.Common.{◌⊎◌, inl, inr, sym, subst}
use Rattle.byte_ports.specs.Ends.{SinkState, sink_at}
use Rattle.text_output.specs.Endings.{Ending}
use Rattle.clpcode.specs.declared.command.Task.{Task}
use Rattle.clpcode.specs.Headline.{Answers}
use Rattle.clpcode.specs.Parts.{IsShort}
use Rattle.clpcode.proofs.Listings.{short_or_loaded}
use Rattle.clpcode.proofs.run.answer_text.Goals as goal

pub returns-in-List : goal.returns-in-List
returns-in-List g c =
    let old : SinkState = sink_at (g.K.Sink.written c.args.sink.now) (g.K.Sink.faults c.args.sink.now) in
    let new : SinkState = sink_at (g.K.Sink.written c.list_text.new.sink) (g.K.Sink.faults c.list_text.new.sink) in
    let r = c.list_text.result in
    subst (λ (t : Task). IsShort old new r ⊎ Answers t (Ending old new r) r c.args.text.now) (sym c.in-List.is) c.list_text.ensures

pub returns-in-Load : goal.returns-in-Load
returns-in-Load g c =
    let old : SinkState = sink_at (g.K.Sink.written c.args.sink.now) (g.K.Sink.faults c.args.sink.now) in
    let new : SinkState = sink_at (g.K.Sink.written c.load_text.new.sink) (g.K.Sink.faults c.load_text.new.sink) in
    let r = c.load_text.result in
    subst (λ (t : Task). IsShort old new r ⊎ Answers t (Ending old new r) r c.args.text.now) (sym c.in-Load.is)
    (short_or_loaded (Ending old new r) r c.args.text.now (IsShort old new r) c.requires c.load_text.ensures)
