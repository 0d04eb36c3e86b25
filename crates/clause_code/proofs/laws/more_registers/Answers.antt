use Rattle.clause_code.proofs.MoreRegisters.{means_more}
use Rattle.clause_code.proofs.laws.more_registers.Goals as goal

pub returns : goal.returns
returns c = means_more
