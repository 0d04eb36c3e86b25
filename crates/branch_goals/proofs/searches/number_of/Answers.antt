use Rattle.branch_goals.proofs.SearchMembers.{looked_here, looked_more}
use Rattle.branch_goals.proofs.searches.number_of.Goals as goal

pub returns-then-own-variable : goal.returns-then-own-variable
returns-then-own-variable c = looked_here c.args.open_ones.now c.loop-own.own-index (0, 0) c.args.variable c.loop-own-test.true c.if-own-variable.true c.loop-own.invariant

pub loop-own-preserved : goal.loop-own-preserved
loop-own-preserved c = looked_more c.args.open_ones.now c.loop-own.own-index (0, 0) c.args.variable c.loop-own-test.true c.if-own-variable.false c.loop-own.invariant
