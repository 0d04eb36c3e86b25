use Rattle.answer_check.proofs.OneJudgement.{one_judgement}
use Rattle.answer_check.proofs.laws.one_judgement.Goals as goal

pub returns : goal.returns
returns c = one_judgement
