use Rattle.run_laws.proofs.AnyOutputs.{any_output}
use Rattle.run_laws.proofs.laws.any_output.Goals as goal

pub returns : goal.returns
returns c = any_output c.scoped_program.ensures
