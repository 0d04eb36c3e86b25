use Rattle.run_laws.proofs.AnyOutputs.{any_runs}
use Rattle.run_laws.proofs.laws.any_runs.Goals as goal

pub returns : goal.returns
returns c = any_runs
