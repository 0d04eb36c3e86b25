use Rattle.std.proofs.Common.{refl}
use Rattle.term_reader.proofs.Operands.{stands_name}
use Rattle.term_reader.proofs.parser.Parser.operand_at_stop.Goals as goal

pub returns-in_ok-term-in-BehindName : goal.returns-in_ok-term-in-BehindName
returns-in_ok-term-in-BehindName c = stands_name c.args.self.now _ c.in-BehindName.place c.in-BehindName.name c.in_ok-term-in-BehindName.term c.requires
    c.in-BehindName.is c.in_ok-term-in-BehindName.ensures refl refl refl
