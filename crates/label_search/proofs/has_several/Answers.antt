use Rattle.std.proofs.Common.{arith}
use Rattle.std.proofs.lemmas.Bool.{ltb-true, ltb-false}
use Rattle.label_search.proofs.Picks.{one_by_ends, free_count}
use Rattle.label_search.proofs.has_several.Goals as goal

pub returns-in-Var-clause-no : goal.returns-in-Var-clause-no
returns-in-Var-clause-no g c = one_by_ends c.args.infinity c.in-Var.k c.least.result c.greatest.result (g.V.View.sets c.args.view.now) c.args.member
    c.domain-domain.result.now c.in-Var.is c.domain-domain.ensures c.least.ensures.least c.greatest.ensures.greatest c.least.ensures.rising

pub returns-in-Free-clause-yes : goal.returns-in-Free-clause-yes
returns-in-Free-clause-yes g c h =
    let e = free_count c.args.infinity (g.V.View.sets c.args.view.now) c.args.member c.in-Free.is in
    let l = ltb-true 0 c.args.infinity h in
    omega arith

pub returns-in-Free-clause-no : goal.returns-in-Free-clause-no
returns-in-Free-clause-no g c h =
    let e = free_count c.args.infinity (g.V.View.sets c.args.view.now) c.args.member c.in-Free.is in
    let l = ltb-false 0 c.args.infinity h in
    omega arith
