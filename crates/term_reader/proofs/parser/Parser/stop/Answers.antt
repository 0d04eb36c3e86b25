use Rattle.std.proofs.Common.{refl}
use Rattle.term_reader.proofs.Operands.{stop_not, not_empty}
use Rattle.term_reader.proofs.parser.Parser.stop.Goals as goal

pub returns-else-is_empty : goal.returns-else-is_empty
returns-else-is_empty c =
    let o = rw c.in-Some.is at c.in_ok-operand.ensures in
    stop_not 0 c.in_ok-term.field-0-1 c.in-Some.operand c.in_ok-term.term c.args.self.now c.operand_at_stop.new.self
    (record c.operand_at_stop.new.self { pool = c.reduce.new.pool; items = c.reduce.new.items }) o c.in_ok-term.ensures.steps
    c.in_ok-term.ensures.stays refl
    (not_empty c.is_empty.result _ _ c.is_empty.ensures c.if-is_empty.false c.reduce.new.items.ok.0)
