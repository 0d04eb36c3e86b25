use Rattle.linear_forms.specs.Loops.{Adding}
use Rattle.linear_forms.proofs.sums.add_terms.Given as goal

abbrev pub invariant-loop-variable : goal.invariant-loop-variable
invariant-loop-variable l = Adding l.fn.terms.entries l.other.entries l.terms.entries l.variable-iterator
