use Rattle.std.proofs.Common.{refl}
use Rattle.term_reader.specs.View.{last_item}
use Rattle.term_reader.proofs.OpenBrackets.{moves_next}
use Rattle.term_reader.proofs.parser.Parser.next_argument.Goals as goal

pub returns : goal.returns
returns c = moves_next c.args.self.now _ c.args.term c.requires.whole c.requires.term (last_item c.args.self.now.items.items) refl c.requires.top refl c.in_ok-push.ensures.items refl refl
