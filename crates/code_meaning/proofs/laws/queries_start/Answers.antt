use Rattle.code_meaning.proofs.QueryStart.{run_starts}
use Rattle.code_meaning.proofs.laws.queries_start.Goals as goal

pub returns : goal.returns
returns c = run_starts
