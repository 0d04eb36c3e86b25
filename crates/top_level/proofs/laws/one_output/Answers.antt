use Rattle.top_level.proofs.OneOutput.{one_output}
use Rattle.top_level.proofs.laws.one_output.Goals as goal

pub returns : goal.returns
returns c = one_output
