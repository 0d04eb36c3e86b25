use Rattle.std.proofs.Common.{◌≡◌, take, map, ◌++◌}
use Rattle.range_code.specs.declared.instr.RangeInstr.TheVariants as instr
use Rattle.range_code.specs.Instructions.{without_need}
use Rattle.range_code.proofs.instr.tests_of.Given as goal

abbrev pub invariant-loop-slot : goal.invariant-loop-slot
invariant-loop-slot l = l.tests.items ≡ map instr.NeedSome (without_need 0 l.needs) ++ map instr.NeedFixed (take l.slot-index l.vals)
