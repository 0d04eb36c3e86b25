use Rattle.std.proofs.Common.{sym, subst}
use Rattle.std.specs.Prelude.{MatchResult}
use Rattle.linear_forms.specs.declared.walk.Task.{Task}
use Rattle.linear_forms.specs.declared.walk.Task.TheVariants as task
use Rattle.linear_forms.specs.Tasks.{Does, Refuses}
use Rattle.linear_forms.proofs.Steps.{at_once}
use Rattle.linear_forms.proofs.walk.Made.take.Goals as goal

pub returns-in-Add : goal.returns-in-Add
returns-in-Add c =
    subst (λ (k : Task). MatchResult c.add.result (λ _. Does c.args.pool.now k c.args.self.now c.args.ahead.now.items c.add.new.self c.args.ahead.now.items)
    (Refuses c.args.pool.now k c.args.self.now)) (sym c.in-Add.is)
    (at_once c.args.pool.now task.Add c.args.self.now c.add.new.self c.args.ahead.now.items c.add.result c.add.ensures)

pub returns-in-Multiply : goal.returns-in-Multiply
returns-in-Multiply c =
    subst (λ (k : Task). MatchResult c.multiply.result
    (λ _. Does c.args.pool.now k c.args.self.now c.args.ahead.now.items c.multiply.new.self c.args.ahead.now.items)
    (Refuses c.args.pool.now k c.args.self.now)) (sym c.in-Multiply.is)
    (at_once c.args.pool.now task.Multiply c.args.self.now c.multiply.new.self c.args.ahead.now.items c.multiply.result c.multiply.ensures)
