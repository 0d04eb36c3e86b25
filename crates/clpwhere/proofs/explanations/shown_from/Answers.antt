use Rattle.std.proofs.Common.{arith}
use Rattle.std.proofs.lemmas.List.{take_min}
use Rattle.clpwhere.proofs.explanations.shown_from.Goals as goal

pub returns : goal.returns
returns c = grind (arith, take_min)
