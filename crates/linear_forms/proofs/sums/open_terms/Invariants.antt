use Rattle.std.proofs.Common.{◌≡◌, ◌++◌}
use Rattle.fd_model.specs.Linear.{nonzero}
use Rattle.linear_forms.specs.Shares.{coefficients}
use Rattle.linear_forms.proofs.sums.open_terms.Given as goal

abbrev pub invariant-loop-variable : goal.invariant-loop-variable
invariant-loop-variable l = l.left.items ++ nonzero (coefficients l.variable-iterator) ≡ nonzero (coefficients l.terms.entries)
