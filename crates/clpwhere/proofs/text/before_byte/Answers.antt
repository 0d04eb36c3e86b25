use Rattle.clpwhere.proofs.ByteParts.{before_some, before_none}
use Rattle.clpwhere.proofs.text.before_byte.Goals as goal

pub returns-in-Some : goal.returns-in-Some
returns-in-Some c = before_some c.args.byte c.args.bytes.now c.in-Some.at c.in-Some.ensures.0 c.in-Some.ensures.1

pub returns-in-None : goal.returns-in-None
returns-in-None c = before_none c.args.byte c.args.bytes.now c.in-None.ensures
