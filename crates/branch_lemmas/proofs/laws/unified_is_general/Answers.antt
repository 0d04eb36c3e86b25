use Rattle.branch_lemmas.proofs.Unification.{unified_is_general}
use Rattle.branch_lemmas.proofs.laws.unified_is_general.Goals as goal

pub returns : goal.returns
returns c = unified_is_general
