use Rattle.std.proofs.Common.{refl}
use Rattle.product_bool.proofs.SumSizes.{sizes_turn, sizes_end}
use Rattle.product_bool.proofs.sums.magnitudes.Goals as goal

pub returns-in-None : goal.returns-in-None
returns-in-None c = sizes_end c.args.terms.now c.loop-term.term-index c.magnitude.result _ _ c.requires c.loop-term-test.true c.magnitude.ensures refl c.loop-term.invariant.0 c.in-None.ensures

pub loop-term-preserved : goal.loop-term-preserved
loop-term-preserved c = sizes_turn c.args.terms.now c.loop-term.term-index c.magnitude.result _ _ c.in-Some.more c.requires c.loop-term-test.true
    c.magnitude.ensures refl c.loop-term.invariant.0 c.in-Some.ensures
