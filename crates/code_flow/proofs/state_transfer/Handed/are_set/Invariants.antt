use Rattle.std.proofs.Common.{◌≡◌}
use Rattle.wam_code.specs.Effect.{are_set}
use Rattle.code_flow.proofs.state_transfer.Handed.are_set.Given as goal

abbrev pub invariant-loop-left : goal.invariant-loop-left
invariant-loop-left l = are_set l.self.regs l.left ≡ are_set l.self.regs l.fn.count

abbrev pub decreases-loop-left : goal.decreases-loop-left
decreases-loop-left l = l.left
