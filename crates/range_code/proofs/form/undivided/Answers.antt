use Rattle.std.proofs.Common.{pos, refl}
use Rattle.fd_language.specs.declared.range_node.RangeNode.TheVariants as node
use Rattle.range_code.proofs.Forms.{undivided_down, undivided_up}
use Rattle.range_code.proofs.form.undivided.Goals as goal

pub returns-in-DivDown : goal.returns-in-DivDown
returns-in-DivDown c = undivided_down (node.Int (pos 1)) c.args.operator refl c.in-DivDown.is

pub returns-in-DivUp : goal.returns-in-DivUp
returns-in-DivUp c = undivided_up (node.Int (pos 1)) c.args.operator refl c.in-DivUp.is
