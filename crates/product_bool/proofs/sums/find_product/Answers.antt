use Rattle.product_bool.proofs.TellingSums.{apart_from, apart_turns}
use Rattle.product_bool.proofs.sums.find_product.Goals as goal

pub loop-index-preserved : goal.loop-index-preserved
loop-index-preserved c = apart_turns c.args.terms.now c.args.variable c.loop-index.index c.loop-index-test.true (apart_from _ _ c.if-terms-index.false) c.loop-index.invariant
