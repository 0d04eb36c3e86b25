use Rattle.term_reader.proofs.Operands.{still_begun, not_empty}
use Rattle.term_reader.proofs.parser.Parser.is_between.Goals as goal

pub returns-in-Operand-clause-begun : goal.returns-in-Operand-clause-begun
returns-in-Operand-clause-begun c e = still_begun c.args.self.now c.in-Operand.is (not_empty c.is_empty.result _ _ c.is_empty.ensures e c.args.self.now.items.ok.0)
