use Rattle.std.proofs.Common.{refl, ◌∙◌, ap, List, ◌++◌, ◌∷◌, []}
use Rattle.clause_check.specs.declared.goals.Task.{Task}
use Rattle.clause_check.specs.declared.goals.Task.TheVariants as task
use Rattle.clause_check.proofs.BodyTasks.{turned}
use Rattle.clause_check.proofs.goals.GoalStore.turn.Goals as goal

pub returns : goal.returns
returns c = λ N s k l.
    turned N s c.args.self.now c.close.new.self _ c.args.joint c.args.start c.args.right c.in_ok-left.left k c.requires l c.in_ok-left.ensures (record { ranges = refl; goals = refl; pending = refl })
    (c.in_ok-push-2.ensures.items ∙ ap (λ (ts : List Task). ts ++ task.Visit c.args.right ∷ []) c.in_ok-push.ensures.items)
