use Rattle.std.proofs.Common.{◌∙◌}
use Rattle.code_goals.proofs.Numbers.{numbers_up_to}
use Rattle.code_goals.proofs.labels.numbers_to.Goals as goal

pub returns : goal.returns
returns c = c.set_interval.ensures ∙ numbers_up_to c.args.infinity
