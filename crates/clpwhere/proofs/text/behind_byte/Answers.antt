use Rattle.clpwhere.proofs.ByteParts.{behind_some, behind_none}
use Rattle.clpwhere.proofs.text.behind_byte.Goals as goal

pub returns-in-Some : goal.returns-in-Some
returns-in-Some c = behind_some c.args.byte c.args.bytes.now c.in-Some.at c.in-Some.ensures.0 c.in-Some.ensures.1

pub returns-in-None : goal.returns-in-None
returns-in-None c = behind_none c.args.byte c.args.bytes.now c.in-None.ensures
