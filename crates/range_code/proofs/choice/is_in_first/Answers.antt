use Rattle.range_code.proofs.ChosenMembers.{in_first}
use Rattle.range_code.proofs.choice.is_in_first.Goals as goal

pub returns-in-len1-up : goal.returns-in-len1-up
returns-in-len1-up c = in_first c.args.number c.args.spans.now (0, 0) c.in-len1-up.len_at_least c.requires.spans c.requires.first
