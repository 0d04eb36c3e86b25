use Rattle.wam_code.proofs.Tries.{at_try, try_from_rule}
use Rattle.wam_code.proofs.laws.choices_follow_rules.Goals as goal

pub returns : goal.returns
returns c = record { there = at_try; back = try_from_rule }
