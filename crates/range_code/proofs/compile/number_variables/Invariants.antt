use Rattle.std.proofs.Common.{take}
use Rattle.range_code.specs.Nodes.{node_variables}
use Rattle.range_code.specs.SlotNumbering.{IsNumbered}
use Rattle.range_code.proofs.compile.number_variables.Given as goal

abbrev pub invariant-loop-node : goal.invariant-loop-node
invariant-loop-node l = IsNumbered (node_variables (take l.node-index l.nodes)) l.numbered
