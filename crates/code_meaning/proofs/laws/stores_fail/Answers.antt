use Rattle.code_meaning.proofs.QueryStart.{run_fails}
use Rattle.code_meaning.proofs.laws.stores_fail.Goals as goal

pub returns : goal.returns
returns c = run_fails
