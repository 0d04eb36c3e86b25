use Rattle.std.proofs.Common.{sym}
use Rattle.product_bool.proofs.Factors.{many_none}
use Rattle.product_bool.proofs.products.factors.Goals as goal

pub returns-in-len3-up : goal.returns-in-len3-up
returns-in-len3-up c = sym (many_none c.args.pool.now _ _ c.in-Comp.parts.now c.in-Comp.ensures.term c.in-len3-up.len_at_least)
