use Rattle.std.proofs.Common.{◌∙◌, refl, sym}
use Rattle.term_reader.proofs.Operands.{is_terminal_more, whole_grown, moves_name}
use Rattle.term_reader.proofs.parser.Parser.behind_name.Goals as goal

pub follow-requires-clause-token : goal.follow-requires-clause-token
follow-requires-clause-token c = is_terminal_more c.args.self.now.pool c.add_atom.new.pool c.in_ok-term.ensures.grows c.args.token c.requires.token

pub follow-requires-clause-whole : goal.follow-requires-clause-whole
follow-requires-clause-whole c = whole_grown c.args.self.now _ c.requires.whole c.in_ok-term.ensures.grows c.in_ok-term.ensures.valid refl refl refl

pub returns-in_ok-term : goal.returns-in_ok-term
returns-in_ok-term c =
    moves_name c.follow.result c.args.self.now (record c.args.self.now { pool = c.add_atom.new.pool }) c.follow.new.self c.args.at c.args.place c.args.name
    c.args.token c.in_ok-term.term c.requires.whole c.requires.token (sym (c.is_tight_open.ensures c.args.self.now.pool c.args.place)
    ∙ c.if-is_tight_open.false)
    c.in_ok-term.ensures refl refl c.follow.ensures
