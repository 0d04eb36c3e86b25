use Rattle.clause_code.proofs.NestedStructures.{does_move}
use Rattle.clause_code.proofs.laws.any_order.Goals as goal

pub returns : goal.returns
returns c = does_move
