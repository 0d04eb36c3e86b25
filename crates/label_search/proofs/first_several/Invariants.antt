use Rattle.label_search.proofs.Picks.{ArePassed}
use Rattle.label_search.proofs.first_several.Given as goal

abbrev pub invariant-loop-i : goal.invariant-loop-i
invariant-loop-i g l = ArePassed l.infinity (g.V.View.sets l.view) l.list l.i
