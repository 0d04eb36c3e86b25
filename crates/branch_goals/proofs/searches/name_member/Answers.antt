use Rattle.std.proofs.Common.{subst}
use Rattle.branch_goals.specs.Searches.{Numbers}
use Rattle.branch_goals.proofs.BestLeafSearch.{step_none, step_some}
use Rattle.branch_goals.proofs.searches.name_member.Goals as goal

pub returns-in_ok-push-in-None : goal.returns-in_ok-push-in-None
returns-in_ok-push-in-None c = λ name sets ms m k a.
    step_none name c.args.heap.now.now sets c.args.cell ms m c.args.named.now c.number_for.new.named c.push.new.self.items c.args.member c.variable_of-variable.result
    (subst (λ o. Numbers c.args.member c.variable_of-variable.result c.args.named.now o c.number_for.new.named) c.in-None.is c.in_ok-number_for.ensures) k a c.in_ok-push-in-None.ensures.items

pub returns-in_ok-push-in-Some-2 : goal.returns-in_ok-push-in-Some-2
returns-in_ok-push-in-Some-2 c = λ name sets ms m k a.
    step_some name c.args.heap.now.now sets c.args.cell ms m c.args.named.now c.number_for.new.named c.push-in-Some.new.self.items c.variable_of-variable.result c.in-Some.number
    (c.variable_of-variable.ensures name) a c.push-in-Some-2.new.self.items c.in_ok-push-in-Some.ensures.items c.in_ok-push-in-Some-2.ensures.items c.args.member
    (subst (λ o. Numbers c.args.member c.variable_of-variable.result c.args.named.now o c.number_for.new.named) c.in-Some.is c.in_ok-number_for.ensures) k
