use Rattle.reason_meaning.proofs.OneGoalEach.{one_goal_each}
use Rattle.reason_meaning.proofs.laws.one_goal_each.Goals as goal

pub returns : goal.returns
returns c = one_goal_each
