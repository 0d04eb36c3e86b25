use Rattle.branch_lemmas.proofs.AtomNames.{full_one, full_own}
use Rattle.branch_lemmas.proofs.laws.full_names.Goals as goal

pub returns : goal.returns
returns c = λ names distinct. (full_one names distinct, full_own names)
