use Rattle.run_laws.proofs.FlatTexts.{flat_texts}
use Rattle.run_laws.proofs.laws.flat_texts.Goals as goal

pub returns : goal.returns
returns c = flat_texts c.flat_verdict.ensures
