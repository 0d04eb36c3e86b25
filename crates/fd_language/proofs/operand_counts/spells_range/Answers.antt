use Rattle.fd_language.proofs.SpelledNodes.{ends_none, ends_one, ends_other}
use Rattle.fd_language.proofs.operand_counts.spells_range.Goals as goal

pub returns-in-None : goal.returns-in-None
returns-in-None c = ends_none _ _ _ _ _ c.loop-node-test.true c.loop-node.invariant.1 c.in-None.ensures.reached

pub returns-then-waiting-eq1 : goal.returns-then-waiting-eq1
returns-then-waiting-eq1 c = ends_one _ _ _ _ c.loop-node-test.false c.loop-node.invariant.1 c.if-waiting-eq1.true

pub returns-else-waiting-eq1 : goal.returns-else-waiting-eq1
returns-else-waiting-eq1 c = ends_other _ _ _ _ c.loop-node-test.false c.loop-node.invariant.1 c.if-waiting-eq1.false
