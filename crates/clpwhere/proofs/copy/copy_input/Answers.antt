use Rattle.std.proofs.Common.{rules}
use Rattle.clpwhere.specs.declared.outcome.Fault.TheVariants.{NoMemory}
use Rattle.byte_ports.specs.Ends.{Ends}
use Rattle.clpwhere.proofs.Runs.{copy_cut, none_cut}
use Rattle.clpwhere.proofs.copy.copy_input.Goals as goal

pub returns-in_err-buffer : goal.returns-in_err-buffer
returns-in_err-buffer g c =
    let old : Ends = record {
      left = g.S.Source.left c.args.source.now;
      written = g.K.Sink.written c.args.sink.now;
      source_faults = g.S.Source.faults c.args.source.now;
      sink_faults = g.K.Sink.faults c.args.sink.now;
    } in
    copy_cut c.args.text.now old old NoMemory c.from_residual.result (search rules) (none_cut c.args.text.now old)
