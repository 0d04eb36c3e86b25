use Rattle.std.proofs.Common.{◌≡◌, ◌+◌, suc, ◌∙◌, sym, ap, arith}
use Rattle.label_search.proofs.Picks.{length-universe}
use Rattle.label_search.specs.Picks.{value_count}
use Rattle.label_search.proofs.value_count_of.Goals as goal

pub returns-in-Free : goal.returns-in-Free
returns-in-Free g c = (let e : c.args.infinity + 1 ≡ suc c.args.infinity = omega arith in
    e) ∙ sym (ap (value_count c.args.infinity (g.V.View.sets c.args.view.now)) c.in-Free.is ∙ length-universe c.args.infinity)
