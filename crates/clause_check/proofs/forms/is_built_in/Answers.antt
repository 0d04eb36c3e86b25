use Rattle.std.proofs.Common.{sym, ◌∙◌}
use Rattle.clause_check.proofs.FormNames.{built_in_by}
use Rattle.clause_check.proofs.forms.is_built_in.Goals as goal

pub returns-else-is_joining : goal.returns-else-is_joining
returns-else-is_joining c =
    let h = c.if-is_joining in
    let k = c.is_joining.ensures in
    let m = c.is_some.ensures in
    c.is_some.ensures ∙ built_in_by c.args.name.now c.args.arity c.form_named.result (sym c.is_joining.ensures ∙ c.if-is_joining.false) c.form_named.ensures
