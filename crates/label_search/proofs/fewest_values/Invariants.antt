use Rattle.label_search.proofs.Picks.{IsBest}
use Rattle.label_search.proofs.fewest_values.Given as goal

abbrev pub invariant-loop-i : goal.invariant-loop-i
invariant-loop-i g l = IsBest l.infinity 4294967295 (g.V.View.sets l.view) l.list l.i l.fewest l.best
