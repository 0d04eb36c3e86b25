use Rattle.sought_leaves.proofs.LeafSearch.{searches_agree}
use Rattle.sought_leaves.proofs.laws.searches_agree.Goals as goal

pub returns : goal.returns
returns c = searches_agree
