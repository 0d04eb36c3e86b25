use Rattle.linear_forms.specs.Loops.{Scaling}
use Rattle.linear_forms.proofs.sums.scaled_terms.Given as goal

abbrev pub invariant-loop-variable : goal.invariant-loop-variable
invariant-loop-variable l = Scaling l.factor l.terms.entries l.scaled.entries l.variable-iterator
