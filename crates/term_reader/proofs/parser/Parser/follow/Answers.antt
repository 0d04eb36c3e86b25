use Rattle.term_reader.specs.View.{infix_name}
use Rattle.term_reader.proofs.Operands.{moves_no_infix, not_infix}
use Rattle.term_reader.proofs.parser.Parser.follow.Goals as goal

pub returns-in-None : goal.returns-in-None
returns-in-None c = moves_no_infix c.end_operand.result c.args.place c.args.operand c.args.token c.args.self.now c.end_operand.new.self
    (not_infix (infix_name c.args.self.now.pool c.args.token) c.infix_at.result _ (c.infix_at.ensures c.args.self.now.pool c.args.place c.requires.token)
    c.in-None.is) c.end_operand.ensures
