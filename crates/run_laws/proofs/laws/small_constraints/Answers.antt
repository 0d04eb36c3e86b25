use Rattle.run_laws.proofs.GoalSizes.{small_constraints}
use Rattle.run_laws.proofs.laws.small_constraints.Goals as goal

pub returns : goal.returns
returns c = small_constraints
