use Rattle.std.proofs.Common.{◌≡◌, true, false, subst}
use Rattle.fd_language.specs.Family.{has}
use Rattle.branch_goals.specs.Searches.{firsts, own_by}
use Rattle.branch_goals.proofs.BestLeafSearch.{cost_known, cost_open, cost_other}
use Rattle.branch_goals.proofs.searches.cost_in.Goals as goal

pub returns-in-Fixed : goal.returns-in-Fixed
returns-in-Fixed g c = λ name ms n.
    let k = c.in_ok-member.ensures name in
    cost_known name c.args.heap.now.now (g.V.View.sets c.args.view.now) ms c.args.named.now c.args.cost c.in_ok-member.member c.in-Fixed.field-0 c.in-Fixed.is k.0 k.1

pub returns-in-Some : goal.returns-in-Some
returns-in-Some g c = λ name ms n.
    let k = c.in_ok-member.ensures name in
    let found = c.in-Some.ensures in
    cost_open name c.args.heap.now.now (g.V.View.sets c.args.view.now) ms c.args.named.now c.args.cost n c.in_ok-member.member c.in_default.not-Fixed k.0 k.1
    c.variable_of.result (c.variable_of.ensures name) c.in-Some.number
    (subst (λ ps. has (firsts ps) c.variable_of.result ≡ true) c.deref.ensures.value found.0)
    (subst (λ ps. c.in-Some.number ≡ own_by ps c.variable_of.result) c.deref.ensures.value found.1)

pub returns-in-None : goal.returns-in-None
returns-in-None g c = λ name ms n.
    let k = c.in_ok-member.ensures name in
    cost_other name c.args.heap.now.now (g.V.View.sets c.args.view.now) ms c.args.named.now c.args.cost n c.in_ok-member.member c.in_default.not-Fixed k.0 k.1
    c.variable_of.result (c.variable_of.ensures name)
    (subst (λ ps. has (firsts ps) c.variable_of.result ≡ false) c.deref.ensures.value c.in-None.ensures)
