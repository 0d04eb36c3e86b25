use Rattle.std.proofs.Common.{◌≡◌, ◌∙◌, sym, true, false}
use Rattle.fd_language.specs.Operators.{is_operator}
use Rattle.name_syntax.proofs.Lemmas.{roles_tell}
use Rattle.term_reader.proofs.GrammarTokens.{knows_operator, knows_name}
use Rattle.term_reader.proofs.terminals.word.Goals as goal

pub returns-then-is_operator : goal.returns-then-is_operator
returns-then-is_operator c =
    let e = c.in_ok-name.ensures in
    let is : is_operator c.args.text.now ≡ true = sym (roles_tell c.args.text.now _ _ c.roles_of-roles.ensures.between c.roles_of-roles.ensures.before)
    ∙ sym c.is_operator.ensures ∙ c.if-is_operator.true in
    knows_operator _ _ _ _ _ c.args.text.now e.extends e.valid e.own e.name c.roles_of-roles.ensures.between c.roles_of-roles.ensures.before is

pub returns-else-is_operator : goal.returns-else-is_operator
returns-else-is_operator c =
    let e = c.in_ok-name.ensures in
    let is : is_operator c.args.text.now ≡ false = sym (roles_tell c.args.text.now _ _ c.roles_of-roles.ensures.between c.roles_of-roles.ensures.before)
    ∙ sym c.is_operator.ensures ∙ c.if-is_operator.false in
    knows_name _ _ _ c.args.text.now e.extends e.valid e.own e.name is
