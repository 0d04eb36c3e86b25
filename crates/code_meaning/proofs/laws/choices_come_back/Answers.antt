use Rattle.code_meaning.proofs.ChoiceSteps.{run_try_me_else}
use Rattle.code_meaning.proofs.MachineStates.{back_resumes}
use Rattle.code_meaning.proofs.laws.choices_come_back.Goals as goal

pub returns : goal.returns
returns c = record { go = run_try_me_else; back = back_resumes }
