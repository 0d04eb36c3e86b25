use Rattle.clause_code.proofs.Pieces.{does_either}
use Rattle.clause_code.proofs.laws.both_ways.Goals as goal

pub returns : goal.returns
returns c = does_either
