use Rattle.linear_forms.proofs.Steps.{formed}
use Rattle.linear_forms.proofs.collect.Goals as goal

pub returns : goal.returns
returns c = let g = c.in_ok-difference.ensures in formed _ g.2.0 g.2.1 c.linear_of.result (c.linear_of.ensures g.2.0 g.0 g.1 g.2.2)
