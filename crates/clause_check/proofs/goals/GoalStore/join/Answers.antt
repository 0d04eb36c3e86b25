use Rattle.std.proofs.Common.{List, [], ◌∷◌, ◌++◌, refl, ap, ◌∙◌}
use Rattle.clause_check.specs.declared.program.FlatGoal.{FlatGoal}
use Rattle.clause_check.specs.GoalStores.{flat_part, joined_by}
use Rattle.clause_check.proofs.BodyTasks.{joined}
use Rattle.clause_check.proofs.goals.GoalStore.join.Goals as goal

pub returns : goal.returns
returns c = λ N s k l.
    let right = c.in_ok-right.right in
    let made = c.joined_goal-goal.ensures ∙ ap (λ (gs : List FlatGoal). joined_by c.args.joint (flat_part gs c.args.left) c.args.left right) c.deref.ensures.value in
    joined N s c.args.self.now c.close.new.self _ c.args.start right k c.requires.start c.in_ok-right.ensures c.args.joint c.args.left l refl refl
    (c.in_ok-push.ensures.items ∙ ap (λ (g : FlatGoal). c.close.new.self.pending.items ++ g ∷ []) made) refl
