use Rattle.product_bool.proofs.Factors.{one_no_comparison, many_no_comparison}
use Rattle.product_bool.proofs.reified.sides.Goals as goal

pub returns-in-len1 : goal.returns-in-len1
returns-in-len1 c = one_no_comparison c.args.pool.now _ _ c.in-Comp.parts.now c.in-Comp.ensures.term c.in-len1.len_below

pub returns-in-len3-up : goal.returns-in-len3-up
returns-in-len3-up c = many_no_comparison c.args.pool.now _ _ c.in-Comp.parts.now c.in-Comp.ensures.term c.in-len3-up.len_at_least
