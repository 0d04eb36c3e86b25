use Rattle.std.proofs.Common.{arith}
use Rattle.constraint_expand.proofs.MemberCounters.{sum_turns, sum_ends}
use Rattle.constraint_expand.proofs.counts.sum_of.Goals as goal

pub loop-index-preserved : goal.loop-index-preserved
loop-index-preserved c = sum_turns c.args.variables.now c.args.first c.loop-index.units.items c.push.new.self.items c.loop-index.index (omega arith) c.loop-index.invariant c.in_ok-push.ensures.items

pub returns : goal.returns
returns c = sum_ends c.args.variables.now c.args.first c.loop-index.units.items c.loop-index.index (omega arith) c.loop-index.invariant
