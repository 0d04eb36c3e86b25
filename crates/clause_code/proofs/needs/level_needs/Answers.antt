use Rattle.std.proofs.Common.{ap, ◌∙◌}
use Rattle.clause_check.specs.declared.program.FlatGoal.{FlatGoal}
use Rattle.clause_check.specs.Programs.{goal_in}
use Rattle.clause_code.specs.LevelSlots.{need}
use Rattle.clause_code.proofs.LevelSlots.{needs_push}
use Rattle.clause_code.proofs.needs.level_needs.Goals as goal

pub loop-i-preserved : goal.loop-i-preserved
loop-i-preserved c =
    let p = c.args.program.now in
    needs_push p c.loop-i.i c.in_ok-count.count c.loop-i.needs.items c.push.new.self.items c.loop-i.invariant
    (c.in_ok-count.ensures ∙ ap (λ (g : FlatGoal). need (goal_in p g)) c.goal-goal.ensures.goal) c.in_ok-push.ensures.items
