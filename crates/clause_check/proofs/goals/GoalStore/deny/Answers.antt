use Rattle.std.proofs.Common.{refl}
use Rattle.clause_check.proofs.BodyTasks.{denied}
use Rattle.clause_check.proofs.goals.GoalStore.deny.Goals as goal

pub returns : goal.returns
returns c = λ N s k. denied N s c.args.self.now c.close.new.self _ c.args.start c.in_ok-inner.inner k c.requires c.in_ok-inner.ensures refl refl c.in_ok-push.ensures.items refl
