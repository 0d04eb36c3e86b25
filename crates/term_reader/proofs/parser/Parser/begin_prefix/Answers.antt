use Rattle.std.proofs.Common.{◌≡◌, ◌∙◌, Some, refl, ap, sym, arith, option_map}
use Rattle.fd_language.specs.Operators.{prefix_of}
use Rattle.term_pool.specs.Contents.{atom_name}
use Rattle.name_syntax.specs.Operators.{operator_of}
use Rattle.term_reader.specs.View.{item_limit, last_item}
use Rattle.term_reader.proofs.Operands.{moves_prefix, moves_prefix_not}
use Rattle.term_reader.proofs.parser.Parser.begin_prefix.Goals as goal

pub returns-in_ok-push : goal.returns-in_ok-push
returns-in_ok-push c =
    let lim : c.limit.result ≡ item_limit (last_item c.args.self.now.items.items) = cc in
    let is : prefix_of (atom_name c.args.self.now.pool c.args.name) ≡ Some (operator_of (atom_name c.args.self.now.pool c.args.name) c.in-Some.operator) = sym
    c.requires.prefix ∙ ap (option_map (operator_of (atom_name c.args.self.now.pool c.args.name))) c.in-Some.is in
    moves_prefix c.operand.result c.args.self.now (record c.args.self.now { items = c.push.new.self }) c.operand.new.self c.args.at c.args.place c.args.name
    c.in-Some.operator c.args.token is (omega (arith, lim, c.if-operator-limit.true)) refl refl c.in_ok-push.ensures.items c.operand.ensures

pub returns-else-operator-limit : goal.returns-else-operator-limit
returns-else-operator-limit c =
    let lim : c.limit.result ≡ item_limit (last_item c.args.self.now.items.items) = cc in
    let is : prefix_of (atom_name c.args.self.now.pool c.args.name) ≡ Some (operator_of (atom_name c.args.self.now.pool c.args.name) c.in-Some.operator) = sym
    c.requires.prefix ∙ ap (option_map (operator_of (atom_name c.args.self.now.pool c.args.name))) c.in-Some.is in
    moves_prefix_not c.args.self.now _ c.args.at c.args.place c.args.name c.in-Some.operator c.args.token is (omega (arith, lim, c.if-operator-limit.false))
