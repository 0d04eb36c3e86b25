use Rattle.std.proofs.Common.{◌≡◌, pos, take, true}
use Rattle.fd_model.specs.Linear.{in_integers}
use Rattle.fd_model.specs.ReifiedRows.{magnitudes}
use Rattle.product_bool.proofs.sums.magnitudes.Given as goal

abbrev pub invariant-loop-term : goal.invariant-loop-term
invariant-loop-term l = (l.total ≡ pos (magnitudes (take l.term-index l.terms))) × (in_integers l.total ≡ true)
