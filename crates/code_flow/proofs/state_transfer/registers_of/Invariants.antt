use Rattle.std.proofs.Common.{◌≡◌, length}
use Rattle.code_flow.proofs.DistinctRegisters.{AreSame}
use Rattle.code_flow.proofs.state_transfer.registers_of.Given as goal

abbrev pub invariant-loop-at : goal.invariant-loop-at
invariant-loop-at l = record {
  size : length l.registers.items ≡ l.at;
  same : AreSame l.states l.registers.items;
}
