use Rattle.reason_meaning.proofs.KeptPrograms.{kept_programs}
use Rattle.reason_meaning.proofs.laws.kept_programs.Goals as goal

pub returns : goal.returns
returns c = kept_programs
