use Rattle.clpwhere.proofs.Refusals.{told}
use Rattle.clpwhere.proofs.laws.told_as_spelled.Goals as goal

pub returns : goal.returns
returns c = λ line r. told line r
