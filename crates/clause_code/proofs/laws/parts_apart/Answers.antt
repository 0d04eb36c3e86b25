use Rattle.clause_code.proofs.NestedStructures.{does_split}
use Rattle.clause_code.proofs.laws.parts_apart.Goals as goal

pub returns : goal.returns
returns c = does_split
