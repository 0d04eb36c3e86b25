use Rattle.std.proofs.Common.{◌≡◌, ℕ, take, nat_eq}
use Rattle.indexmap.specs.IndexMap.{get}
use Rattle.range_code.specs.ParameterNeeds.{need_in}
use Rattle.range_code.proofs.compile.needs_by_variable.Given as goal

abbrev pub invariant-loop-variable : goal.invariant-loop-variable
invariant-loop-variable l = (y : ℕ) → get nat_eq l.found y ≡ need_in (take l.variable-index l.needs) y
