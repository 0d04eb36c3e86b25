use Rattle.std.proofs.Common.{◌∙◌}
use Rattle.name_syntax.proofs.Lemmas.{roles_tell}
use Rattle.name_syntax.proofs.operators.is_operator.Goals as goal

pub returns : goal.returns
returns c = c.is_operator.ensures ∙ roles_tell c.args.name.now _ _ c.roles_of.ensures.between c.roles_of.ensures.before
