use Rattle.std.proofs.Common.{refl, sym, subst}
use Rattle.clpwhere.specs.declared.command.Asked.{Asked}
use Rattle.clpwhere.specs.declared.command.Asked.TheVariants.{Usage, Help, Version}
use Rattle.byte_ports.specs.Ends.{Ends}
use Rattle.clpwhere.specs.Headline.{Headline}
use Rattle.clpwhere.proofs.Runs.{run_line}
use Rattle.clpwhere.proofs.run.Goals as goal

pub returns-in-Usage-clause-headline : goal.returns-in-Usage-clause-headline
returns-in-Usage-clause-headline g c =
    let old : Ends = record {
      left = g.S.Source.left c.args.source.now;
      written = g.K.Sink.written c.args.sink.now;
      source_faults = g.S.Source.faults c.args.source.now;
      sink_faults = g.K.Sink.faults c.args.sink.now;
    } in
    let new : Ends = record {
      left = g.S.Source.left c.args.source.now;
      written = g.K.Sink.written c.put_last.new.sink;
      source_faults = g.S.Source.faults c.args.source.now;
      sink_faults = g.K.Sink.faults c.put_last.new.sink;
    } in
    subst (λ (a : Asked). Headline a old new c.put_last.result) (sym c.in-Usage.is) (run_line Usage old new c.put_last.result tt refl refl c.put_last.ensures.wrote)

pub returns-in-Help-clause-headline : goal.returns-in-Help-clause-headline
returns-in-Help-clause-headline g c =
    let old : Ends = record {
      left = g.S.Source.left c.args.source.now;
      written = g.K.Sink.written c.args.sink.now;
      source_faults = g.S.Source.faults c.args.source.now;
      sink_faults = g.K.Sink.faults c.args.sink.now;
    } in
    let new : Ends = record {
      left = g.S.Source.left c.args.source.now;
      written = g.K.Sink.written c.put_last-in-Help.new.sink;
      source_faults = g.S.Source.faults c.args.source.now;
      sink_faults = g.K.Sink.faults c.put_last-in-Help.new.sink;
    } in
    subst (λ (a : Asked). Headline a old new c.put_last-in-Help.result) (sym c.in-Help.is) (run_line Help old new c.put_last-in-Help.result tt refl refl c.put_last-in-Help.ensures.wrote)

pub returns-in-Version-clause-headline : goal.returns-in-Version-clause-headline
returns-in-Version-clause-headline g c =
    let old : Ends = record {
      left = g.S.Source.left c.args.source.now;
      written = g.K.Sink.written c.args.sink.now;
      source_faults = g.S.Source.faults c.args.source.now;
      sink_faults = g.K.Sink.faults c.args.sink.now;
    } in
    let new : Ends = record {
      left = g.S.Source.left c.args.source.now;
      written = g.K.Sink.written c.put_last-in-Version.new.sink;
      source_faults = g.S.Source.faults c.args.source.now;
      sink_faults = g.K.Sink.faults c.put_last-in-Version.new.sink;
    } in
    subst (λ (a : Asked). Headline a old new c.put_last-in-Version.result) (sym c.in-Version.is) (run_line Version old new c.put_last-in-Version.result tt refl refl c.put_last-in-Version.ensures.wrote)
