use Rattle.clpwhere.proofs.QueriedLines.{plain_output, plain_tells}
use Rattle.clpwhere.proofs.laws.without_queries.Goals as goal

pub returns : goal.returns
returns c = λ text input. record { output = plain_output text input; tells = plain_tells text input }
