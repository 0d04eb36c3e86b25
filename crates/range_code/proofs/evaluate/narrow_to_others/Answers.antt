use Rattle.range_code.proofs.Forms.{narrows_same}
use Rattle.range_code.specs.Steps.{outside}
use Rattle.range_code.proofs.evaluate.narrow_to_others.Goals as goal

pub returns : goal.returns
returns c = narrows_same c.narrowed_by.result c.args.target.now c.in_ok-others.others (outside c.args.inner.now) c.in_ok-others.ensures.set c.narrowed_by.ensures.narrowed
