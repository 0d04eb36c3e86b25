use Rattle.constraint_expand.proofs.ListWalks.{several_parts}
use Rattle.constraint_expand.proofs.members.cell.Goals as goal

pub returns-in-len3-up : goal.returns-in-len3-up
returns-in-len3-up c = several_parts c.args.pool.now _ _ c.in-Comp.parts.now c.in-Comp.ensures.term c.in-len3-up.len_at_least
