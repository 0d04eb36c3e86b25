use Rattle.std.proofs.Common.{get_or, refl}
use Rattle.term_pool.specs.declared.TermId.{TermId}
use Rattle.text_warnings.proofs.OpenGoals.{passed_more}
use Rattle.text_warnings.proofs.open_variables.put_goals.Goals as goal

pub loop-goal-preserved : goal.loop-goal-preserved
loop-goal-preserved c =
    let i = c.loop-goal.goal-index in
    let gs = c.args.goals.now in
    let d : TermId = record { number = 0 } in
    passed_more c.args.pool.now c.args.names.now c.args.passed.now c.loop-goal.passed c.put_goal.new.passed gs i (get_or gs i d) d c.args.warnings.now.items c.loop-goal.warnings.items
    c.put_goal.new.warnings.items c.loop-goal-test.true refl c.loop-goal.invariant c.in_ok-put_goal.ensures
