use Rattle.std.proofs.Common.{arith, length}
use Rattle.label_search.proofs.Picks.{ArePassed, picked_first, picked_none, several_none}
use Rattle.label_search.proofs.first_several.Given as given
use Rattle.label_search.proofs.first_several.Goals as goal

pub returns-then-has_several-clause-picked : goal.returns-then-has_several-clause-picked
returns-then-has_several-clause-picked g c = picked_first _ _ _ c.loop-i.i c.loop-i-test.true (c.has_several.ensures.yes c.if-has_several.true) c.loop-i.invariant

passed : (g : given.Over) (c : goal.After-loop-i g) → ArePassed c.args.infinity (g.V.View.sets c.args.view.now) c.args.list.now (length c.args.list.now)
passed g c k l = c.loop-i.invariant k (omega arith)

pub returns-clause-picked : goal.returns-clause-picked
returns-clause-picked g c = picked_none _ _ _ (passed g c)

pub returns-clause-several : goal.returns-clause-several
returns-clause-several g c = several_none _ _ _ (passed g c)
