use Rattle.std.proofs.Common.{refl}
use Rattle.term_reader.proofs.Operands.{whole_reduced, moves_end_operand}
use Rattle.term_reader.proofs.parser.Parser.end_operand.Goals as goal

pub close-requires-clause-whole : goal.close-requires-clause-whole
close-requires-clause-whole c = whole_reduced c.args.self.now _ c.requires.whole c.in_ok-term.ensures.steps refl refl

pub returns : goal.returns
returns c = moves_end_operand c.close.result c.args.priority c.in_ok-term.field-0-1 c.args.operand c.in_ok-term.term c.args.token c.args.self.now
    (record c.args.self.now { pool = c.reduce.new.pool; items = c.reduce.new.items }) c.close.new.self c.requires.whole c.requires.token
    c.in_ok-term.ensures.steps c.in_ok-term.ensures.stays refl c.close.ensures
