use Rattle.std.proofs.Common.{ap}
use Rattle.heap_cells.specs.Cells.{is_bound}
use Rattle.branch_goals.proofs.Labels.{variable_is, no_variable}
use Rattle.branch_goals.proofs.labelling.variable_of.Goals as goal

pub returns-in-Open : goal.returns-in-Open
returns-in-Open c = λ name.
    let s = c.in-Open.ensures.seen in
    variable_is name c.args.heap.now.now c.deref.ensures.valid c.args.c c.in-Open.i s.0 (ap is_bound s.1) s.2

pub returns-in-Constrained : goal.returns-in-Constrained
returns-in-Constrained c = λ name.
    let s = c.in-Constrained.ensures.seen in
    variable_is name c.args.heap.now.now c.deref.ensures.valid c.args.c c.in-Constrained.i s.0 (ap is_bound s.1) s.2

pub returns-in_default : goal.returns-in_default
returns-in_default c = λ name.
    no_variable name c.args.heap.now.now c.deref.ensures.valid c.args.c c.deref.result c.deref.ensures.seen c.in_default.not-Open c.in_default.not-Constrained 0
