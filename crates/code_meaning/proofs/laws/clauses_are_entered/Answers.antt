use Rattle.code_meaning.proofs.ClauseChoices.{step_enter}
use Rattle.code_meaning.proofs.laws.clauses_are_entered.Goals as goal

pub returns : goal.returns
returns c = step_enter
