use Rattle.std.specs.Map.{lookup}
use Rattle.std.specs.Ordering.{int_eq}
use Rattle.std.proofs.Common.{ap}
use Rattle.indexmap.specs.IndexMap.{get}
use Rattle.branch_state.proofs.cells.prepare_cells.Goals as goal

pub name_cells-requires-clause-none : goal.name_cells-requires-clause-none
name_cells-requires-clause-none g c = λ z. ap (λ es. lookup (int_eq z) es) c.new-2.ensures.empty

pub returns-clause-ready : goal.returns-clause-ready
returns-clause-ready g c = λ name t looks. (get int_eq c.name_cells.new.numbers.variables, c.in_ok-target.ensures.ready name t looks)
