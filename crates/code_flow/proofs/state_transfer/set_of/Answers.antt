use Rattle.std.proofs.Common.{rules}
use Rattle.code_flow.proofs.StateEquivalence.{inserted, set_step}
use Rattle.code_flow.proofs.state_transfer.set_of.Goals as goal

pub loop-index-preserved : goal.loop-index-preserved
loop-index-preserved c = set_step c.args.numbers.now c.loop-index.index _ (search rules) c.loop-index.found.keys c.insert_full.new.self.keys c.loop-index.invariant
    (inserted c.loop-index.found.keys c.insert_full.new.self.keys _ c.in_ok-insert_full.ensures.updates.0)
