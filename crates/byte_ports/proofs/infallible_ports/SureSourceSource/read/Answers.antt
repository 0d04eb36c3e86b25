use Rattle.std.proofs.Common.{sym, drop, arith, length-take, ◌∙◌}
use Rattle.byte_ports.proofs.Pieces.{read_from}
use Rattle.byte_ports.proofs.infallible_ports.SureSourceSource.read.Goals as goal

pub returns-clause-bytes : goal.returns-clause-bytes
returns-clause-bytes c =
    read_from c.args.self.now c.self.inside.bytes.items c.deref.result.now c.copy_from_slice.new.self (drop c.min-n.result c.args.buf.now) c.self.inside.at
    c.min-n.result (sym c.self.view_is) c.deref.ensures.value c.copy_from_slice.ensures.after
    (c.copy_from_slice.ensures.len ∙ length-take c.min-n.result c.args.buf.now ∙ omega arith)
