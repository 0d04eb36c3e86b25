use Rattle.code_meaning.proofs.InstructionSteps.{step_get_variable, step_get_value}
use Rattle.code_meaning.proofs.laws.heads_are_matched.Goals as goal

pub returns : goal.returns
returns c = record { first = step_get_variable; later = step_get_value }
