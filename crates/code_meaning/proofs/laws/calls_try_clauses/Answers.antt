use Rattle.code_meaning.proofs.GoalCalls.{run_call}
use Rattle.code_meaning.proofs.laws.calls_try_clauses.Goals as goal

pub returns : goal.returns
returns c = run_call
