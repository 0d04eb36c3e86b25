use Rattle.std.proofs.Common.{◌≡◌, ◌<◌, ◌⊎◌, inl, inr, refl, arith}
use Rattle.fd_language.specs.Operators.{left_limit}
use Rattle.name_syntax.specs.Operators.{nameless}
use Rattle.term_reader.specs.View.{item_limit, last_item}
use Rattle.term_reader.proofs.Operands.{whole_reduced, is_terminal_more, named_from, moves_attach, moves_attach_not}
use Rattle.term_reader.proofs.parser.Parser.attach.Goals as goal
use Rattle.term_reader.proofs.parser.Parser.attach.Goals.{else-operator-limit-via-then-operator-limit+else-priority-left_limit}
use Rattle.term_reader.proofs.parser.Parser.attach.Goals.{else-operator-limit-via-else-operator-limit}

pub infix_atom-requires-clause-token : goal.infix_atom-requires-clause-token
infix_atom-requires-clause-token c = is_terminal_more c.args.self.now.pool c.reduce.new.pool c.in_ok-left.ensures.steps.grows c.args.token c.requires.token

pub end_operand-requires-clause-whole : goal.end_operand-requires-clause-whole
end_operand-requires-clause-whole c = whole_reduced c.args.self.now _ c.requires.whole c.in_ok-left.ensures.steps refl refl

pub end_operand-requires-clause-token : goal.end_operand-requires-clause-token
end_operand-requires-clause-token c = is_terminal_more c.args.self.now.pool c.reduce.new.pool c.in_ok-left.ensures.steps.grows c.args.token c.requires.token

pub returns-in_ok-push : goal.returns-in_ok-push
returns-in_ok-push c =
    let lim : c.limit.result ≡ item_limit (last_item c.reduce.new.items.items) = cc in
    moves_attach c.in_ok-left.priority c.args.place c.args.operator c.in_ok-name.name c.args.operand c.in_ok-left.left c.args.token c.args.self.now
    (record c.args.self.now { pool = c.reduce.new.pool; items = c.reduce.new.items })
    (record c.args.self.now { pool = c.infix_atom.new.pool; items = c.reduce.new.items }) _ c.requires.whole c.in_ok-left.ensures.steps c.in_ok-left.ensures.stays refl refl
    c.requires.operator (omega (arith, lim, c.if-operator-limit.true)) (omega (arith, c.left_limit.ensures, c.if-priority-left_limit.true))
    (named_from c.args.self.now.pool c.reduce.new.pool c.infix_atom.new.pool c.args.token c.in_ok-name.name c.in_ok-left.ensures.steps.grows
    c.requires.token c.in_ok-name.ensures) refl refl refl refl refl c.in_ok-push.ensures.items refl

pub returns-else-operator-limit : goal.returns-else-operator-limit
returns-else-operator-limit c =
    let lim : c.limit.result ≡ item_limit (last_item c.reduce.new.items.items) = cc in
    let why : (item_limit (last_item c.reduce.new.items.items) < c.args.operator.priority) ⊎ (left_limit (nameless c.args.operator) < c.in_ok-left.priority) =
    elim c.else-operator-limit.branch [
      | else-operator-limit-via-then-operator-limit+else-priority-left_limit w ↦ inr (omega (arith, w.left_limit.ensures, w.if-priority-left_limit.false))
      | else-operator-limit-via-else-operator-limit w ↦ inl (omega (arith, lim, w.if-operator-limit.false))
    ] in
    moves_attach_not c.end_operand.result c.in_ok-left.priority c.args.place c.args.operator c.args.operand c.in_ok-left.left c.args.token c.args.self.now
    (record c.args.self.now { pool = c.reduce.new.pool; items = c.reduce.new.items }) c.end_operand.new.self c.requires.whole c.requires.token
    c.in_ok-left.ensures.steps c.in_ok-left.ensures.stays refl
    c.requires.operator why c.end_operand.ensures
