use Rattle.std.proofs.Common.{◌∙◌, refl, sym}
use Rattle.term_reader.proofs.Operands.{moves_empty_list, moves_begin_list}
use Rattle.term_reader.proofs.parser.Parser.behind_open_list.Goals as goal

pub returns-in_ok-term : goal.returns-in_ok-term
returns-in_ok-term c =
    moves_empty_list c.args.self.now _ c.args.at c.args.place c.args.token c.in_ok-term.term c.requires.whole
    (sym (c.is_close_list.ensures c.args.self.now.pool c.args.place) ∙ c.if-is_close_list.true) c.in_ok-term.ensures refl refl refl

pub returns-in_ok-push : goal.returns-in_ok-push
returns-in_ok-push c =
    moves_begin_list c.operand.result c.args.self.now (record c.args.self.now { items = c.push.new.self }) c.operand.new.self c.args.at c.args.place
    c.len-from.result c.args.token (sym (c.is_close_list.ensures c.args.self.now.pool c.args.place) ∙ c.if-is_close_list.false)
    (c.len-from.ensures ∙ c.args.self.now.arguments.ok.0) refl refl c.in_ok-push.ensures.items c.operand.ensures
