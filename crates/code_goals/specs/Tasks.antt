-- What a machine is asked to run, under the names of its code.
use Rattle.fd_model.specs.Goal.{Program, Query}
use Rattle.heap_cells.specs.Terms.{Naming}
use Rattle.branch_lemmas.specs.AtomNames.{full}
use Rattle.wam_code.specs.Area.{Area}
use Rattle.code_safety.specs.RemainingEvents.{Task}

-- the names of the code's pool, with others for atoms that it doesn't have
abbrev pub names_of : Area → Naming
names_of area = full area.pool.names

-- a query over a program, under these names
abbrev pub task_of : Area → Program → Query → Task
task_of area prog q = record { program = prog; query = q; name = names_of area }
