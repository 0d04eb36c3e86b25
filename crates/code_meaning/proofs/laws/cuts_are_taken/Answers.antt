use Rattle.code_meaning.proofs.CutSteps.{run_cut, run_enter, run_test}
use Rattle.code_meaning.proofs.InstructionSteps.{step_level}
use Rattle.code_meaning.proofs.laws.cuts_are_taken.Goals as goal

pub returns : goal.returns
returns c = record { level = step_level; test = run_test; enter = run_enter; cut = run_cut }
