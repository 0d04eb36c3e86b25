use Rattle.range_code.proofs.Forms.{narrows_same}
use Rattle.range_code.proofs.evaluate.narrow_to_set.Goals as goal

pub returns-clause-narrowed : goal.returns-clause-narrowed
returns-clause-narrowed c r rest sets = narrows_same c.narrowed_by.result c.args.target.now c.in_ok-set.set r (c.in_ok-set.ensures.taken r rest sets) c.narrowed_by.ensures.narrowed
