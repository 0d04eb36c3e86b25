use Rattle.std.proofs.Common.{ap}
use Rattle.range_code.proofs.Forms.{narrows_same}
use Rattle.range_code.specs.Steps.{outside}
use Rattle.range_code.proofs.evaluate.narrow_to_outside.Goals as goal

pub returns-clause-narrowed : goal.returns-clause-narrowed
returns-clause-narrowed c r rest sets = narrows_same c.narrow_to_others.result c.args.target.now (outside c.in_ok-inner.inner) (outside r)
    (ap outside (c.in_ok-inner.ensures.taken r rest sets)) c.narrow_to_others.ensures
