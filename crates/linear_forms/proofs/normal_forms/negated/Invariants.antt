use Rattle.std.proofs.Common.{◌≡◌, ◌++◌, negsuc, drop}
use Rattle.fd_model.specs.Linear.{scaled}
use Rattle.linear_forms.proofs.normal_forms.negated.Given as goal

abbrev pub invariant-loop-variable : goal.invariant-loop-variable
invariant-loop-variable l = l.turned.items ++ scaled (negsuc 0) (drop l.variable-index l.terms) ≡ scaled (negsuc 0) l.terms
