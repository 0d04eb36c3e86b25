use Rattle.std.proofs.Common.{◌≡◌, ◌+◌, suc, ◌∙◌, sym, ap, arith, Some}
use Rattle.label_search.proofs.Lemmas.{length-universe}
use Rattle.branch_goals.specs.VariableSelection.{open_count}
use Rattle.branch_goals.proofs.variable_selection.count_of.Goals as goal

pub returns-in-Free : goal.returns-in-Free
returns-in-Free g c =
    ap Some (let e : c.args.infinity + 1 ≡ suc c.args.infinity = omega arith in e)
    ∙ sym (ap (open_count c.args.infinity (g.V.View.sets c.args.view.now)) c.in-Free.is ∙ ap Some (length-universe c.args.infinity))
