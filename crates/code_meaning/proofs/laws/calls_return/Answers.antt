use Rattle.code_meaning.proofs.InstructionSteps.{step_call, step_proceed}
use Rattle.code_meaning.proofs.laws.calls_return.Goals as goal

pub returns : goal.returns
returns c = record { call = step_call; proceed = step_proceed }
