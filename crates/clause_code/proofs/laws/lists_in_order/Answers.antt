use Rattle.clause_code.proofs.ClauseChoices.{list_tries}
use Rattle.clause_code.proofs.laws.lists_in_order.Goals as goal

pub returns : goal.returns
returns c = list_tries
