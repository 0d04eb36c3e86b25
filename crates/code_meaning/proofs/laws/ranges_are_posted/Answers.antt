use Rattle.code_meaning.proofs.RangeGoals.{run_range_fault, run_range}
use Rattle.code_meaning.proofs.laws.ranges_are_posted.Goals as goal

pub returns : goal.returns
returns c = λ M N area prog q name h valid qs at c stack cs k es r runnable n G model most m number args d at_d ds cells counted holds. (
  run_range_fault M N area prog q name h valid qs at c stack cs k es r runnable n G model most m number args d at_d ds cells counted holds,
  run_range M N area prog q name h valid qs at c stack cs k es r runnable n G model most m number args d at_d ds cells counted holds,
)
