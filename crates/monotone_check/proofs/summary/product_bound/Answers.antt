use Rattle.monotone_check.proofs.Bounds.{capped_product}
use Rattle.monotone_check.proofs.summary.product_bound.Goals as goal

pub returns : goal.returns
returns c = λ x y e f. capped_product _ _ x y _ _ c.saturating_mul.ensures c.min.ensures e f
