use Rattle.std.proofs.Common.{◌∙◌, refl}
use Rattle.term_reader.proofs.Operands.{moves_begin_call}
use Rattle.term_reader.proofs.parser.Parser.begin_call.Goals as goal

pub returns : goal.returns
returns c = moves_begin_call c.args.self.now _ c.args.place c.len-from.result c.args.name c.requires.whole c.requires.name
    (c.len-from.ensures ∙ c.args.self.now.arguments.ok.0) refl refl c.in_ok-push.ensures.items refl
