use Rattle.std.proofs.Common.{arith}
use Rattle.heap_cells.proofs.Fields.{slots_there}
use Rattle.heap_cells.proofs.Heap.variable_count.Goals as goal

pub returns : goal.returns
returns c =
    let slots = slots_there c.self.inside c.args.self.now c.self.view_is in
    omega (arith, c.self.inside.variables.ok.0, slots)
