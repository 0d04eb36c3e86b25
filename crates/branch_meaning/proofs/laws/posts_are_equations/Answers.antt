use Rattle.branch_meaning.proofs.TouchLaw.{posts_are_equations}
use Rattle.branch_meaning.proofs.laws.posts_are_equations.Goals as goal

pub returns : goal.returns
returns c = posts_are_equations
