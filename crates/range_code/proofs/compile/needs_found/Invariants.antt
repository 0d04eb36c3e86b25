use Rattle.std.proofs.Common.{◌≡◌, take, map, nat_eq}
use Rattle.indexmap.specs.IndexMap.{get}
use Rattle.range_code.proofs.compile.needs_found.Given as goal

abbrev pub invariant-loop-variable : goal.invariant-loop-variable
invariant-loop-variable l = l.by_slot.items ≡ map (get nat_eq l.found) (take l.variable-index l.slots)
