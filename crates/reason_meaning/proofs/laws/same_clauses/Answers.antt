use Rattle.reason_meaning.proofs.SameClauses.{same_clauses}
use Rattle.reason_meaning.proofs.laws.same_clauses.Goals as goal

pub returns : goal.returns
returns c = same_clauses
